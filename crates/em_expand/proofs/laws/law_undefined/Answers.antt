use Rattle.em_expand.proofs.Undefined.{undefined_law}
use Rattle.em_expand.proofs.laws.law_undefined.Goals as goal

pub returns : goal.returns
returns c = undefined_law
