use Rattle.em_gram.proofs.Holding.{end_made, end_nesting}
use Rattle.em_gram.proofs.nest.end_piece.Goals as goal

pub returns-clause-pattern : goal.returns-clause-pattern
returns-clause-pattern c = end_made

pub returns-clause-nesting : goal.returns-clause-nesting
returns-clause-nesting c = end_nesting
