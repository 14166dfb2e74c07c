use Rattle.em_implicit.proofs.Matching.{own_member}
use Rattle.em_implicit.proofs.laws.law_member.Goals as goal

pub returns : goal.returns
returns c = own_member
