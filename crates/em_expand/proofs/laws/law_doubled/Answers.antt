use Rattle.em_expand.proofs.Dollars.{doubled_law}
use Rattle.em_expand.proofs.laws.law_doubled.Goals as goal

pub returns : goal.returns
returns c = doubled_law
