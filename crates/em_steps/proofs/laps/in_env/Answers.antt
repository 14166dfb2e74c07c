use Rattle.em_view.proofs.Doing.{then_s, leave_s, finish_s}
use Rattle.em_steps.specs.Laps.{in_env}
use Rattle.em_steps.proofs.laps.in_env.Goals as goal

pub returns-in_err-env-clause-does : goal.returns-in_err-env-clause-does
unfolding in_env
returns-in_err-env-clause-does g c = leave_s _ c.from_residual.ensures.1 (rw c.items-autos.ensures at c.in_err-env.ensures)

pub returns-in_err-tried-clause-does : goal.returns-in_err-tried-clause-does
unfolding in_env
returns-in_err-tried-clause-does g c = then_s _ (rw c.items-autos.ensures at c.in_ok-env.ensures) (leave_s _ c.from_residual-in_err-tried.ensures.1 (rw c.in_ok-shell.ensures at c.in_err-tried.ensures.does))

pub returns-clause-does : goal.returns-clause-does
unfolding in_env
returns-clause-does g c = then_s _ (rw c.items-autos.ensures at c.in_ok-env.ensures) (then_s _ (rw c.in_ok-shell.ensures at c.in_ok-tried.ensures.does) finish_s)
