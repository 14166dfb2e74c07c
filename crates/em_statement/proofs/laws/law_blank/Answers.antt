use Rattle.em_statement.proofs.Blank.{blank_line}
use Rattle.em_statement.proofs.laws.law_blank.Goals as goal

pub returns : goal.returns
returns c = blank_line
