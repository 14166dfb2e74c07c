use Rattle.em_gram.proofs.Holding.{argument_made, argument_nesting}
use Rattle.em_gram.proofs.piece.argument_piece.Goals as goal

pub returns-clause-pattern : goal.returns-clause-pattern
returns-clause-pattern c = argument_made c.args.quoted c.args.name c.args.form

pub returns-clause-nesting : goal.returns-clause-nesting
returns-clause-nesting c = argument_nesting c.args.quoted _
