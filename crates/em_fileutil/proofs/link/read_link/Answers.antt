use Rattle.std.proofs.Common.{refl}
use Rattle.em_view.proofs.Doing.{then_s, leave_s, owned_s, out_s}
use Rattle.em_fileutil.specs.Linking.{read_link}
use Rattle.em_fileutil.proofs.link.read_link.Goals as goal

pub returns-in_err-path : goal.returns-in_err-path
returns-in_err-path g c = out_s _ refl c.from_residual.ensures.1

pub returns-in_err-link : goal.returns-in_err-link
unfolding read_link
returns-in_err-link g c = leave_s _ c.from_residual-in_err-link.ensures.1 (rw c.in_ok-path.ensures at (c.in_err-link.ensures c.args.done.now))

pub returns : goal.returns
unfolding read_link
returns g c = then_s _ (rw c.in_ok-path.ensures at (c.in_ok-link.ensures c.args.done.now)) (owned_s _ c.say_link.ensures)
