use Rattle.em_program_laws.proofs.Leaving.{status_asked}
use Rattle.em_program_laws.proofs.laws.law_status_asked.Goals as goal

pub returns-clause-question : goal.returns-clause-question
returns-clause-question c = λ words builds files one. (status_asked words builds files one).1

pub returns-clause-ordered : goal.returns-clause-ordered
returns-clause-ordered c = λ words builds files one. (status_asked words builds files one).0
