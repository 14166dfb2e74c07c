use Rattle.em_plan.proofs.Ending.{without_circles}
use Rattle.em_plan.proofs.laws.law_without_circles.Goals as goal

pub returns : goal.returns
returns c = λ says rank down goals p e. without_circles says rank down goals p e
