use Rattle.em_job.proofs.Idling.{bare_changes, bare_made}
use Rattle.em_job.proofs.laws.law_recipe.Goals as goal

pub returns : goal.returns
returns c = record { changes = λ j s e n makes none. bare_changes j s e n makes none; made = λ j s e n makes none. bare_made j s e n makes none }
