use Rattle.std.proofs.Common.{None}
use Rattle.em_workers.proofs.Committing.{commits_none}
use Rattle.em_workers.proofs.phases.commit_if_long.Goals as goal

pub returns-then-not-pays_on_board-clause-commits : goal.returns-then-not-pays_on_board-clause-commits
returns-then-not-pays_on_board-clause-commits g c = commits_none _ _ _ _ _ _ _ None
