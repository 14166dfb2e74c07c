use Rattle.em_job.proofs.Idling.{dry_changes}
use Rattle.em_job.proofs.laws.law_dry.Goals as goal

pub returns : goal.returns
returns c = λ j s e n makes dry none. dry_changes j dry s e n makes none
