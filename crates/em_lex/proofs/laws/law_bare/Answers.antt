use Rattle.em_lex.proofs.Bare.{bare_law}
use Rattle.em_lex.proofs.laws.law_bare.Goals as goal

pub returns : goal.returns
returns c = bare_law
