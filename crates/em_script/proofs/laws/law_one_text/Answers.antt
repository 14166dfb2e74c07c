use Rattle.em_script.proofs.Meaning.{one_text}
use Rattle.em_script.proofs.laws.law_one_text.Goals as goal

pub returns : goal.returns
returns c = one_text
