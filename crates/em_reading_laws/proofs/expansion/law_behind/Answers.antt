use Rattle.em_reading_laws.proofs.Behind.{behind_law}
use Rattle.em_reading_laws.proofs.expansion.law_behind.Goals as goal

pub returns : goal.returns
returns c = behind_law
