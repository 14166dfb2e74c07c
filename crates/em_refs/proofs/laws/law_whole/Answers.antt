use Rattle.em_refs.proofs.Whole.{told_law, whole_law}
use Rattle.em_refs.proofs.laws.law_whole.Goals as goal

pub returns-clause-before : goal.returns-clause-before
returns-clause-before c = λ text. (told_law text).whole

pub returns-clause-all : goal.returns-clause-all
returns-clause-all c = whole_law
