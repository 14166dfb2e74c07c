use Rattle.em_insight.proofs.Graham.{bound}
use Rattle.em_insight.proofs.laws.law_bound.Goals as goal

pub returns : goal.returns
returns c = bound
