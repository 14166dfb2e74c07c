use Rattle.em_plan.proofs.Ending.{dropped_open}
use Rattle.em_plan.proofs.laws.law_dropped.Goals as goal

pub returns : goal.returns
returns c = λ says left stack n m w v facts e. dropped_open says facts left stack n m w v e
