use Rattle.em_laws.proofs.Matching.{listed, negated}
use Rattle.em_laws.proofs.glob.law_set.Goals as goal

pub returns-clause-listed : goal.returns-clause-listed
returns-clause-listed c = listed

pub returns-clause-negated : goal.returns-clause-negated
returns-clause-negated c = negated
