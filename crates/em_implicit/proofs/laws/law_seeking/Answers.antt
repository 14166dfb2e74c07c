use Rattle.em_implicit.proofs.Told.{told_found}
use Rattle.em_implicit.proofs.laws.law_seeking.Goals as goal

pub returns : goal.returns
returns c = λ rules patterns tree cwd target. told_found rules tree cwd target patterns
