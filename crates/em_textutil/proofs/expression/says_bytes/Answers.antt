use Rattle.std.proofs.Common.{refl}
use Rattle.em_view.proofs.Performing.{then, leave, finish, ran_out}
use Rattle.em_textutil.specs.Expressions.{says_bytes}
use Rattle.em_textutil.proofs.expression.says_bytes.Goals as goal

pub returns-in_err-path : goal.returns-in_err-path
returns-in_err-path g c = ran_out _ refl c.from_residual.ensures.1

pub returns-in_err-body : goal.returns-in_err-body
unfolding says_bytes
returns-in_err-body g c = leave _ c.from_residual-in_err-body.ensures.1 (rw c.in_ok-path.ensures at c.in_err-body.ensures)

pub returns : goal.returns
unfolding says_bytes
returns g c = then _ (rw c.in_ok-path.ensures at c.in_ok-body.ensures) (rw c.has_bytes.ensures finish)
