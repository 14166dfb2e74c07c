use Rattle.em_view.proofs.Doing.{then_s, leave_s}
use Rattle.em_fileutil.proofs.Spotting.{ending_ok, ending_leave}
use Rattle.em_fileutil.specs.Utilities.{copy_all}
use Rattle.em_fileutil.proofs.command.copy_all.Goals as goal

pub returns-in_err-target : goal.returns-in_err-target
unfolding copy_all
returns-in_err-target g c = leave_s _ c.from_residual.ensures.1 (rw (c.front-sources.ensures, c.last.ensures) at (c.in_err-target.ensures c.args.done.now))

pub returns-in_err-for_each : goal.returns-in_err-for_each
unfolding copy_all
returns-in_err-for_each g c = then_s _ (rw (c.front-sources.ensures, c.last.ensures) at (c.in_ok-target.ensures c.args.done.now)) (ending_leave c.from_residual-in_err-for_each.ensures.1 (rw c.front-sources.ensures at c.in_err-for_each.ensures))

pub returns : goal.returns
unfolding copy_all
returns g c = then_s _ (rw (c.front-sources.ensures, c.last.ensures) at (c.in_ok-target.ensures c.args.done.now)) (ending_ok (rw c.front-sources.ensures at c.in_ok-for_each.ensures))
