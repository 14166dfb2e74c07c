use Rattle.em_view.proofs.Doing.{then_s, exit_s, finish_s, below_ok, below_err}
use Rattle.em_job.specs.Stops as stops
use Rattle.em_job.specs.Deciding as deciding
use Rattle.em_job.proofs.Stopping.{early_free}
use Rattle.em_job.proofs.awaiting.await_desk.Goals as goal

pub returns-in-Ok : goal.returns-in-Ok
unfolding deciding.await_job
returns-in-Ok g c = λ s. then_s _ (below_ok stops.early c.in-Ok.ensures.performs) (rw (c.ending_of.ensures, c.as_ref.ensures.value) finish_s)

pub returns-in-Err : goal.returns-in-Err
unfolding deciding.await_job
returns-in-Err g c = λ s. exit_s _ (below_err stops.early early_free (λ h. c.early.ensures) c.in-Err.ensures.performs)
