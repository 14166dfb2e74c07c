use Rattle.em_job.proofs.Idling.{question_changes}
use Rattle.em_job.proofs.laws.law_question.Goals as goal

pub returns : goal.returns
returns c = question_changes
