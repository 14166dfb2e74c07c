use Rattle.em_view.proofs.Doing.{then_s, leave_s, finish_s, owned_s}
use Rattle.em_job.specs.Carrying.{fail}
use Rattle.em_job.proofs.fail.fail.Goals as goal

pub returns-in_err-say_failed : goal.returns-in_err-say_failed
unfolding fail
returns-in_err-say_failed g c = leave_s _ c.from_residual.ensures.1 (owned_s _ c.in_err-say_failed.ensures)

pub returns-in_err-delete : goal.returns-in_err-delete
unfolding fail
returns-in_err-delete g c = then_s _ (owned_s _ c.in_ok-say_failed.ensures) (leave_s _ c.from_residual-in_err-delete.ensures.1 c.in_err-delete.ensures)

pub returns : goal.returns
unfolding fail
returns g c = then_s _ (owned_s _ c.in_ok-say_failed.ensures) (then_s _ c.in_ok-delete.ensures finish_s)
