use Rattle.em_statement.proofs.Blotted.{no_operator}
use Rattle.em_statement.proofs.laws.law_operator.Goals as goal

pub returns : goal.returns
returns c = no_operator
