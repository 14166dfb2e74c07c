use Rattle.em_plan.proofs.Saying.{says_plain}
use Rattle.em_plan.proofs.laws.law_plain.Goals as goal

pub returns : goal.returns
returns c = λ rules patterns tree cwd single one. says_plain rules patterns tree cwd single one
