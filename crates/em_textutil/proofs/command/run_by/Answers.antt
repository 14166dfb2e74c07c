use Rattle.em_view.proofs.Performing.{then, leave, finish}
use Rattle.em_textutil.proofs.command.run_by.Goals as goal

pub returns-in-None : goal.returns-in-None
returns-in-None g c = rw c.in-None.is finish

pub returns-in_err-run-in-Some : goal.returns-in_err-run-in-Some
returns-in_err-run-in-Some g c = rw c.in-Some.is (leave _ c.from_residual.ensures.1 c.in_err-run-in-Some.ensures)

pub returns-in_ok-run-in-Some : goal.returns-in_ok-run-in-Some
returns-in_ok-run-in-Some g c = rw c.in-Some.is (then _ c.in_ok-run-in-Some.ensures finish)
