use Rattle.em_gram.proofs.Holding.{bytes_made, bytes_digit, bytes_nesting}
use Rattle.em_gram.proofs.piece.bytes_piece.Goals as goal

pub returns-clause-pattern : goal.returns-clause-pattern
returns-clause-pattern c = bytes_made c.args.quoted c.args.text

pub returns-clause-digit : goal.returns-clause-digit
returns-clause-digit c = bytes_digit c.args.quoted c.args.text

pub returns-clause-nesting : goal.returns-clause-nesting
returns-clause-nesting c = bytes_nesting c.args.quoted c.args.text
