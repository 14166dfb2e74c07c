use Rattle.em_view.proofs.Doing.{then_s, leave_s, finish_s}
use Rattle.em_steps.specs.Laps.{lap}
use Rattle.em_steps.proofs.laps.run_lap.Goals as goal

pub returns-in_err-env-clause-does : goal.returns-in_err-env-clause-does
unfolding lap
returns-in_err-env-clause-does g c = leave_s _ c.from_residual.ensures.1 c.in_err-env.ensures.does

pub returns-in_err-end-in-Ran-clause-does : goal.returns-in_err-end-in-Ran-clause-does
unfolding lap
returns-in_err-end-in-Ran-clause-does g c = then_s _ c.in_ok-env.ensures.does (rw c.in-Ran.is (leave_s _ c.from_residual-in_err-end-in-Ran.ensures.1 (rw c.items-stamps.ensures at c.in_err-end-in-Ran.ensures)))

pub returns-in_ok-end-in-Ran-clause-does : goal.returns-in_ok-end-in-Ran-clause-does
unfolding lap
returns-in_ok-end-in-Ran-clause-does g c = then_s _ c.in_ok-env.ensures.does (rw (c.in-Ran.is, c.lap_of.ensures) (then_s _ (rw c.items-stamps.ensures at c.in_ok-end-in-Ran.ensures) finish_s))

pub returns-in-Begins-clause-does : goal.returns-in-Begins-clause-does
unfolding lap
returns-in-Begins-clause-does g c = then_s _ c.in_ok-env.ensures.does (rw c.in-Begins.is finish_s)
