use Rattle.em_refs.proofs.Plain.{plain_law}
use Rattle.em_refs.proofs.laws.law_plain.Goals as goal

pub returns : goal.returns
returns c = plain_law
