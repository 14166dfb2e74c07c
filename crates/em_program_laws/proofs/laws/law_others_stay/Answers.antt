use Rattle.em_program_laws.proofs.Replacing.{others_stay}
use Rattle.em_program_laws.proofs.laws.law_others_stay.Goals as goal

pub returns : goal.returns
returns c = others_stay
