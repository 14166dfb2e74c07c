use Rattle.std.proofs.Common.{None}
use Rattle.em_workers.proofs.Committing.{commits_none, commits_want, commits_next, as_noted, some_noted, faults_noted}
use Rattle.em_workers.proofs.commit.commit_next.Goals as goal

pub returns-in_default-clause-commits : goal.returns-in_default-clause-commits
returns-in_default-clause-commits g c = commits_none _ _ _ _ _ _ _ None

pub returns-in_err-committed-clause-commits : goal.returns-in_err-committed-clause-commits
returns-in_err-committed-clause-commits g c =
    commits_want _ _ _ _ _ _ _ _ _ _ _ _ _ _ c.from_residual.ensures.1 c.in_err-committed.ensures.err c.in-Some.ensures.next c.job-job.ensures c.lend-lent.ensures.told

pub returns-clause-commits : goal.returns-clause-commits
returns-clause-commits g c =
    as_noted _ _ _ _ c.deliver-delivered.result _ _ _ _ _ _ _ _ c.noted.ensures.ok c.noted.ensures.err
    (commits_next _ _ _ _ _ _ _ _ _ c.in-Some.ensures.next c.in_ok-committed.ensures.committed _ _ _ _ _ _ _ _ c.job-job.ensures c.in-Some.ensures.numbered c.in_ok-committed.ensures.note
    c.lend-lent.ensures.told c.deliver-delivered.ensures.served c.deliver-delivered.ensures.printed)

pub returns-clause-last : goal.returns-clause-last
returns-clause-last g c = some_noted c.deliver-delivered.result _ _ _ c.noted.ensures.ok c.noted.ensures.err

pub returns-clause-faults : goal.returns-clause-faults
returns-clause-faults g c = faults_noted c.deliver-delivered.result _ _ _ _ c.noted.ensures.ok c.noted.ensures.err c.deliver-delivered.ensures.faults
