use Rattle.em_gram.proofs.Holding.{digit_made}
use Rattle.em_gram.proofs.piece.digit_word.Goals as goal

pub returns : goal.returns
returns c = digit_made c.args.n c.push.new.self _ _ _ c.in_ok-push.ensures.items c.new-pieces.ensures.items c.in_ok-text.ensures c.bytes_piece.ensures.digit
