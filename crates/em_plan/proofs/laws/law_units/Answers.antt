use Rattle.em_plan.proofs.Saying.{says_units}
use Rattle.em_plan.proofs.laws.law_units.Goals as goal

pub returns : goal.returns
returns c = says_units
