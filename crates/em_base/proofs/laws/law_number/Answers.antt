use Rattle.em_base.proofs.Numerals.{number_law}
use Rattle.em_base.proofs.laws.law_number.Goals as goal

pub returns : goal.returns
returns c = λ limit n text small. number_law limit n text small
