use Rattle.em_laws.proofs.Matching.{wild_set, plain_quoted, plain_other, wild_unended, wild_together}
use Rattle.em_laws.proofs.glob.law_wild.Goals as goal

pub returns-clause-set : goal.returns-clause-set
returns-clause-set c = wild_set

pub returns-clause-quoted : goal.returns-clause-quoted
returns-clause-quoted c = plain_quoted

pub returns-clause-other : goal.returns-clause-other
returns-clause-other c = plain_other

pub returns-clause-unended : goal.returns-clause-unended
returns-clause-unended c = wild_unended

pub returns-clause-together : goal.returns-clause-together
returns-clause-together c = wild_together
