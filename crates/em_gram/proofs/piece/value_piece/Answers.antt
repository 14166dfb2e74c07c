use Rattle.em_gram.proofs.Holding.{value_piece_made, value_nesting}
use Rattle.em_gram.proofs.piece.value_piece.Goals as goal

pub returns-clause-pattern : goal.returns-clause-pattern
returns-clause-pattern c = value_piece_made c.args.quoted c.args.name c.args.form

pub returns-clause-nesting : goal.returns-clause-nesting
returns-clause-nesting c = value_nesting c.args.quoted _
