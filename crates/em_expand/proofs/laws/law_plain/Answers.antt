use Rattle.em_expand.proofs.Dollars.{plain_law}
use Rattle.em_expand.proofs.laws.law_plain.Goals as goal

pub returns : goal.returns
returns c = plain_law
