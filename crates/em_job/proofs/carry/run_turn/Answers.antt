use Rattle.em_view.proofs.Doing.{then_s, leave_s}
use Rattle.em_job.specs.Carrying.{turn_of}
use Rattle.em_job.proofs.carry.run_turn.Goals as goal

pub returns-in_err-next : goal.returns-in_err-next
unfolding turn_of
returns-in_err-next g c = leave_s _ c.from_residual.ensures.1 (rw c.items-autos.ensures at c.in_err-next.ensures)

pub returns : goal.returns
unfolding turn_of
returns g c = then_s _ (rw c.items-autos.ensures at c.in_ok-next.ensures) (rw c.items-stamps.ensures at c.after_line.ensures)
