use Rattle.em_token.proofs.Tokens.{off, name_bytes}
use Rattle.em_token.proofs.read.bytes.Goals as goal

pub returns-in_err-token-clause-reads : goal.returns-in_err-token-clause-reads
returns-in_err-token-clause-reads c = λ left. off left _ _ _ _ _ c.from_residual.ensures (c.in_err-token.ensures.reads left)

pub returns-clause-reads : goal.returns-clause-reads
returns-clause-reads c = λ left. name_bytes left _ _ _ c.in_ok-text.text.now _ _ c.in_ok-text.ensures.held c.in_ok-name.ensures (c.in_ok-token.ensures.reads left)
