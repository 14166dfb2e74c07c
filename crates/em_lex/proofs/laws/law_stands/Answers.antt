use Rattle.em_lex.proofs.Outcomes.{line_lexes}
use Rattle.em_lex.proofs.laws.law_stands.Goals as goal

pub returns : goal.returns
returns c = λ line. (line_lexes line).stop
