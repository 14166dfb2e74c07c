use Rattle.em_script.proofs.Meaning.{one_meaning}
use Rattle.em_script.proofs.laws.law_one_meaning.Goals as goal

pub returns : goal.returns
returns c = one_meaning
