use Rattle.std.proofs.Common.{None}
use Rattle.em_workers.proofs.Committing.{commits_none}
use Rattle.em_workers.proofs.phases.commit_if_short.Goals as goal

pub returns-then-pays-clause-commits : goal.returns-then-pays-clause-commits
returns-then-pays-clause-commits g c = commits_none _ _ _ _ _ _ _ None
