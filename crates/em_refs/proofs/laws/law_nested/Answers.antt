use Rattle.em_refs.proofs.Whole.{told_law}
use Rattle.em_refs.proofs.laws.law_nested.Goals as goal

pub returns-clause-closed : goal.returns-clause-closed
returns-clause-closed c = λ text. (told_law text).nested

pub returns-clause-unclosed : goal.returns-clause-unclosed
returns-clause-unclosed c = λ text. (told_law text).unclosed
