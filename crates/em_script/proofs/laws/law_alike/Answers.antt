use Rattle.em_script.proofs.Meaning.{alike}
use Rattle.em_script.proofs.laws.law_alike.Goals as goal

pub returns : goal.returns
returns c = alike
