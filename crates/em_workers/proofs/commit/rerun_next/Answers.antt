use Rattle.std.proofs.Common.{None, refl}
use Rattle.em_workers.proofs.Committing.{commits_none, commits_idle, commits_alone, as_err}
use Rattle.em_workers.proofs.commit.rerun_next.Goals as goal

pub returns-in_default-clause-commits : goal.returns-in_default-clause-commits
returns-in_default-clause-commits g c = commits_none _ _ _ _ _ _ _ None

pub returns-in_err-committed-clause-commits : goal.returns-in_err-committed-clause-commits
returns-in_err-committed-clause-commits g c =
    commits_idle _ _ _ _ _ _ _ _ None _ c.from_residual.ensures.1 c.in_err-committed.ensures.err

pub returns-in_err-print-clause-commits : goal.returns-in_err-print-clause-commits
returns-in_err-print-clause-commits g c =
    as_err _ _ _ _ {A = Unit {0}} _ _ _ _ _ _ _ _ _ _ c.from_residual-in_err-print.ensures.1
    (commits_alone _ _ _ _ _ _ _ _ (record { job = c.job-job.result; runs = 1; cause = None }) c.in-Some.ensures.next c.in_ok-committed.ensures.committed _ _ _ c.job-job.ensures c.in-Some.ensures.numbered refl refl
    (rw c.bytes.ensures at c.in_err-print.ensures.printed))

pub returns-clause-commits : goal.returns-clause-commits
returns-clause-commits g c =
    commits_alone _ _ _ _ _ _ _ _ _ c.in-Some.ensures.next c.in_ok-committed.ensures.committed _ _ _ c.job-job.ensures c.in-Some.ensures.numbered refl refl
    (rw c.bytes.ensures at c.in_ok-print.ensures.printed)
