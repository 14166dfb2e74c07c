use Rattle.em_workers.proofs.Committing.{then_stopped, is_stopped}
use Rattle.em_workers.proofs.phases.commit_long.Goals as goal

pub returns-clause-commits : goal.returns-clause-commits
returns-clause-commits g c = then_stopped _ _ _ _ _ _ _ _ _ _ _ _ _ c.commit_while_long-notes.ensures.commits c.stop.ensures.told

pub returns-clause-stopped : goal.returns-clause-stopped
returns-clause-stopped g c = is_stopped _ _ _ _ _ _ _ _ _ _ _ _ _ c.commit_while_long-notes.ensures.commits c.stop.ensures.told
