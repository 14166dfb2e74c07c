use Rattle.em_view.proofs.Doing.{then_s, exit_s, finish_s, below_ok, below_err}
use Rattle.em_job.specs.Stops as stops
use Rattle.em_job.specs.Deciding as deciding
use Rattle.em_job.proofs.Stopping.{early_free}
use Rattle.em_job.proofs.awaiting.await_job.Goals as goal

pub returns-in-Ok : goal.returns-in-Ok
unfolding deciding.await_job
returns-in-Ok g c = λ s. rw c.in-Some.is (then_s _ (then_s _ (below_ok stops.early c.in-Ok.ensures.performs) finish_s) (rw (c.ending_of.ensures, c.next_of.ensures) finish_s))

pub returns-in-Err : goal.returns-in-Err
unfolding deciding.await_job
returns-in-Err g c = λ s. rw c.in-Some.is (exit_s _ (exit_s _ (below_err stops.early early_free (λ h. c.early.ensures) c.in-Err.ensures.performs)))
