use Rattle.em_view.proofs.Doing.{then_s, leave_s, finish_s}
use Rattle.em_job.specs.Carrying.{run}
use Rattle.em_job.proofs.line.run.Goals as goal

pub returns-in_err-env : goal.returns-in_err-env
unfolding run
returns-in_err-env g c = leave_s _ c.from_residual.ensures.1 c.in_err-env.ensures

pub returns-in_err-status : goal.returns-in_err-status
unfolding run
returns-in_err-status g c = then_s _ c.in_ok-env.ensures (leave_s _ c.from_residual-in_err-status.ensures.1 c.in_err-status.ensures)

pub returns : goal.returns
unfolding run
returns g c = then_s _ c.in_ok-env.ensures (then_s _ c.in_ok-status.ensures finish_s)
