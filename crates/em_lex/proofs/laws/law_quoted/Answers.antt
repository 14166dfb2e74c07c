use Rattle.em_lex.proofs.Quoted.{quoted_law}
use Rattle.em_lex.proofs.laws.law_quoted.Goals as goal

pub returns : goal.returns
returns c = quoted_law
