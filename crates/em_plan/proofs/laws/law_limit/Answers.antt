use Rattle.em_plan.proofs.Ending.{plan_few}
use Rattle.em_plan.proofs.Reaching.{too_many}
use Rattle.em_plan.proofs.laws.law_limit.Goals as goal

pub returns-clause-few : goal.returns-clause-few
returns-clause-few c = λ says goals p e. plan_few says goals p e

pub returns-clause-many : goal.returns-clause-many
returns-clause-many c = λ says goals facts e. too_many says facts goals e
