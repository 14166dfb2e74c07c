use Rattle.em_plan.proofs.Serial.{once_double}
use Rattle.em_plan.proofs.laws.law_once.Goals as goal

pub returns : goal.returns
returns c = λ says goals p facts e. once_double says facts goals p e
