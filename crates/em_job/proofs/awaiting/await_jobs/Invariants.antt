use Rattle.std.proofs.Common.{drop, option_map}
use Rattle.em_view.proofs.Doing.{Goes}
use Rattle.em_expand.specs.declared.spoken.Spoken.{Spoken}
use Rattle.em_job.specs.Stops.{is_free}
use Rattle.em_job.specs.Deciding as deciding
use Rattle.em_job.proofs.awaiting.await_jobs.Given as goal

abbrev pub invariant-loop-job : goal.invariant-loop-job
invariant-loop-job g l = (s : Spoken) → Goes is_free g.V.View.tells l.initial.desk l.desk s s (deciding.await_jobs (option_map (λ o. o.now) l.known) l.dry l.jobs deciding.unasked) (deciding.await_jobs (option_map (λ o. o.now) l.left) l.dry (drop l.job-index l.jobs) l.so_far)
