use Rattle.em_view.proofs.Doing.{finish_s, more_s, stop_s, end_s}
use Rattle.em_base.proofs.Lemmas.{none_at}
use Rattle.em_job.proofs.Stepping.{next_at}
use Rattle.em_job.proofs.awaiting.await_jobs.Goals as goal

pub returns-in_err-ending : goal.returns-in_err-ending
returns-in_err-ending g c = λ s. let left = next_at c.args.jobs.now c.loop-job.job-index 0 c.loop-job-test.true in
    stop_s _ (rw left at c.loop-job.invariant s) c.from_residual.ensures.1 (c.in_err-ending.ensures s)

pub loop-job-preserved : goal.loop-job-preserved
loop-job-preserved g c = λ s. let left = next_at c.args.jobs.now c.loop-job.job-index 0 c.loop-job-test.true in
    rw (c.together-so_far.ensures, c.later-left.ensures) (more_s _ (rw left at c.loop-job.invariant s) (c.in_ok-ending.ensures s))

pub returns : goal.returns
returns g c = λ s.
    let none = none_at c.args.jobs.now c.loop-job.job-index c.loop-job-test.false in
    end_s (rw none at c.loop-job.invariant s) finish_s
