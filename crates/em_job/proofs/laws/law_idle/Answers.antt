use Rattle.em_job.proofs.Idling.{idle_changes, idle_says}
use Rattle.em_job.proofs.laws.law_idle.Goals as goal

pub returns : goal.returns
returns c = record { changes = λ j s e n makes. idle_changes j s e n makes; says = λ j s e n makes. idle_says j s e n makes }
