use Rattle.em_view.proofs.Doing.{then_s, leave_s, finish_s, owned_s}
use Rattle.em_steps.specs.Laps.{tried_line}
use Rattle.em_steps.proofs.laps.tried_line.Goals as goal

pub returns-in_err-echo-clause-does : goal.returns-in_err-echo-clause-does
unfolding tried_line
returns-in_err-echo-clause-does g c = leave_s _ c.from_residual.ensures.1 (owned_s _ c.in_err-echo.ensures)

pub returns-then-does_run-clause-does : goal.returns-then-does_run-clause-does
unfolding tried_line
returns-then-does_run-clause-does g c = then_s _ (owned_s _ c.in_ok-echo.ensures) (rw (← c.does_run.ensures, c.if-does_run.true) c.in_env.ensures.does)

pub returns-clause-does : goal.returns-clause-does
unfolding tried_line
returns-clause-does g c = then_s _ (owned_s _ c.in_ok-echo.ensures) (rw (← c.does_run.ensures, c.if-does_run.false) finish_s)
