use Rattle.em_token.proofs.Tokens.{off}
use Rattle.em_gram.proofs.Holding.{number_read, small_at}
use Rattle.em_gram.proofs.piece.digit.Goals as goal

pub returns-in_err-token-clause-reads : goal.returns-in_err-token-clause-reads
returns-in_err-token-clause-reads c = λ left. off left _ _ _ _ _ c.from_residual.ensures (c.in_err-token.ensures.reads left)

pub returns-clause-reads : goal.returns-clause-reads
returns-clause-reads c = λ left. number_read left _ _ _ c.in_ok-n.n c.in_ok-n.ensures.held (c.in_ok-token.ensures.reads left)

pub returns-clause-small : goal.returns-clause-small
returns-clause-small c = small_at _ c.in_ok-n.n c.in_ok-n.ensures.held c.in_ok-token.ensures.among
