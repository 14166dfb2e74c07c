use Rattle.em_lex.proofs.Ordered.{line_order}
use Rattle.em_lex.proofs.laws.law_order.Goals as goal

pub returns : goal.returns
returns c = line_order
