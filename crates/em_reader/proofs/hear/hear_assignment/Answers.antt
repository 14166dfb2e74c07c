use Rattle.em_view.proofs.Doing.{then_s, leave_s, finish_s}
use Rattle.em_reader.specs.Hearing.{hear_assignment}
use Rattle.em_reader.proofs.hear.hear_assignment.Goals as goal

pub returns-in_err-name : goal.returns-in_err-name
unfolding hear_assignment
returns-in_err-name g c = leave_s _ c.from_residual.ensures.1 (rw c.bytes.ensures at c.in_err-name.ensures)

pub returns-in_err-value : goal.returns-in_err-value
unfolding hear_assignment
returns-in_err-value g c = then_s _ (rw c.bytes.ensures at c.in_ok-name.ensures) (leave_s _ c.from_residual-in_err-value.ensures.1 c.in_err-value.ensures)

pub returns : goal.returns
unfolding hear_assignment
returns g c = then_s _ (rw c.bytes.ensures at c.in_ok-name.ensures) (then_s _ c.in_ok-value.ensures (rw c.both.ensures finish_s))
