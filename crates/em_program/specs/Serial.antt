-- The jobs of a project in the serial run.
--     ends j o       the run ends after this job, where it ends so
use Rattle.std.specs.Prelude.{Bool}
use Rattle.em_tree.specs.declared.outcome.Outcome.{Outcome}
use Rattle.em_task.specs.declared.job.Job.{Job}
use Rattle.em_job.specs.Making.{ends_after}

abbrev pub ends : Job → Outcome → Bool
ends j = ends_after j.flags
