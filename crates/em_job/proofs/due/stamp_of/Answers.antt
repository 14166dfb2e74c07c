use Rattle.std.proofs.Common.{refl}
use Rattle.em_view.proofs.Doing.{finish_s, out_s, below_ok, below_err}
use Rattle.em_job.specs.Stops as stops
use Rattle.em_job.specs.Deciding as deciding
use Rattle.em_job.proofs.Stopping.{early_free}
use Rattle.em_job.proofs.due.stamp_of.Goals as goal

pub returns-in_err-path_of : goal.returns-in_err-path_of
returns-in_err-path_of g c = λ s. out_s _ refl c.from_residual.ensures.1

pub returns-in-None : goal.returns-in-None
unfolding deciding.stamp_of
returns-in-None g c = λ s. rw (← c.in_ok-path_of.ensures, c.in-None.is) finish_s

pub returns-in-Ok : goal.returns-in-Ok
unfolding deciding.stamp_of
returns-in-Ok g c = λ s. rw (← c.in_ok-path_of.ensures, c.in-Some.is) (below_ok stops.early c.in-Ok.ensures.performs)

pub returns : goal.returns
unfolding deciding.stamp_of
returns g c = λ s. rw (← c.in_ok-path_of.ensures, c.in-Some.is) (below_err stops.early early_free (λ h. c.early.ensures) c.in-Err.ensures.performs)
