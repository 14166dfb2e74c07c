use Rattle.em_history.proofs.Reading.{reading_back, reading_text, reading_history}
use Rattle.em_history.proofs.laws.law_read.Goals as goal

pub returns-clause-back : goal.returns-clause-back
returns-clause-back c = reading_back

pub returns-clause-text : goal.returns-clause-text
returns-clause-text c = reading_text

pub returns-clause-history : goal.returns-clause-history
returns-clause-history c = reading_history
