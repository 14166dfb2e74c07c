use Rattle.em_lex.proofs.Cut.{cut_law}
use Rattle.em_lex.proofs.laws.law_cut.Goals as goal

pub returns : goal.returns
returns c = cut_law
