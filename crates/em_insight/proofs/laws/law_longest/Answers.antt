use Rattle.em_insight.proofs.Chained.{heaviest, one_chain}
use Rattle.em_insight.proofs.laws.law_longest.Goals as goal

pub returns-clause-heaviest : goal.returns-clause-heaviest
returns-clause-heaviest c = heaviest

pub returns-clause-one : goal.returns-clause-one
returns-clause-one c = one_chain
