use Rattle.em_view.proofs.Performing.{then, leave}
use Rattle.em_textutil.specs.Utilities.{with_options}
use Rattle.em_textutil.proofs.Seeking.{gave_by, gave_none}
use Rattle.em_textutil.proofs.command.with_options.Goals as goal

pub returns-in_err-plan : goal.returns-in_err-plan
unfolding with_options
returns-in_err-plan g c = leave _ c.from_residual.ensures.1 (gave_none (rw c.operands-operands.ensures at c.in_err-plan.ensures))

pub returns : goal.returns
unfolding with_options
returns g c = then _ (gave_by (rw c.operands-operands.ensures at c.in_ok-plan.ensures)) (rw c.operands-operands.ensures at c.carried.ensures)
