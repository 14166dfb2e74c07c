use Rattle.em_glob.specs.Patterns.{AnyBytes}
use Rattle.em_laws.proofs.Matching.{one_matches, alone_quoted, alone_other}
use Rattle.em_laws.proofs.glob.law_one.Goals as goal

pub returns-clause-star : goal.returns-clause-star
returns-clause-star c = λ name. one_matches AnyBytes name tt

pub returns-clause-quoted : goal.returns-clause-quoted
returns-clause-quoted c = alone_quoted

pub returns-clause-other : goal.returns-clause-other
returns-clause-other c = alone_other
