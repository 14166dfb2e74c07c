use Rattle.em_view.proofs.Doing.{then_s, leave_s, finish_s, owned_s}
use Rattle.em_job.specs.Carrying.{run_line}
use Rattle.em_job.proofs.line.run_line.Goals as goal

pub returns-in_err-echo : goal.returns-in_err-echo
unfolding run_line
returns-in_err-echo g c = leave_s _ c.from_residual.ensures.1 (owned_s _ c.in_err-echo.ensures)

pub returns-then-does_run : goal.returns-then-does_run
unfolding run_line
returns-then-does_run g c = then_s _ (owned_s _ c.in_ok-echo.ensures) (rw (← c.does_run.ensures, c.if-does_run.true) c.run.ensures)

pub returns : goal.returns
unfolding run_line
returns g c = then_s _ (owned_s _ c.in_ok-echo.ensures) (rw (← c.does_run.ensures, c.if-does_run.false) finish_s)
