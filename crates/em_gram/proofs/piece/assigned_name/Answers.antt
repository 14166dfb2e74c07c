use Rattle.em_token.proofs.Tokens.{off}
use Rattle.em_gram.proofs.Holding.{named_read}
use Rattle.em_gram.proofs.piece.assigned_name.Goals as goal

pub returns-in_err-token-clause-reads : goal.returns-in_err-token-clause-reads
returns-in_err-token-clause-reads c = λ left. off left _ _ _ _ _ c.from_residual.ensures (c.in_err-token.ensures.reads left)

pub returns-clause-reads : goal.returns-clause-reads
returns-clause-reads c = λ left. named_read left _ _ _ _ c.in_ok-held.held.now _ _ _ c.in_ok-held.ensures.held c.in_ok-token.ensures.among c.bytes.ensures c.without_last.ensures c.in_ok-name.ensures (c.in_ok-token.ensures.reads left)
