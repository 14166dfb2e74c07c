use Rattle.em_token.proofs.Tokens.{off}
use Rattle.em_gram.proofs.Holding.{value_read}
use Rattle.em_gram.proofs.piece.value.Goals as goal

pub returns-in_err-token-clause-reads : goal.returns-in_err-token-clause-reads
returns-in_err-token-clause-reads c = λ left. off left _ _ _ _ _ c.from_residual.ensures (c.in_err-token.ensures.reads left)

pub returns-clause-reads : goal.returns-clause-reads
returns-clause-reads c = λ left. value_read left _ _ _ c.in_ok-quoted.quoted c.in_ok-quoted.held_name.now c.in_ok-quoted.held_form.now _ _ _ c.in_ok-quoted.ensures.held c.in_ok-name.ensures c.in_ok-form.ensures c.value_piece.ensures.pattern (c.in_ok-token.ensures.reads left)
