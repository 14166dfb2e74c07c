use Rattle.em_token.proofs.Tokens.{off}
use Rattle.em_gram.proofs.Holding.{exit_wrong, not_both, argument_read, any_argument}
use Rattle.em_gram.proofs.piece.argument_begin.Goals as goal

pub returns-in_err-token-clause-reads : goal.returns-in_err-token-clause-reads
returns-in_err-token-clause-reads c = λ left. off left _ _ _ _ _ c.from_residual.ensures (c.in_err-token.ensures.reads left)

pub returns-clause-reads : goal.returns-clause-reads
returns-clause-reads c = λ left. argument_read left _ _ _ c.in_ok-quoted.quoted c.in_ok-quoted.held_name.now c.in_ok-quoted.held_form.now _ _ _ c.in_ok-quoted.ensures.held c.in_ok-name.ensures c.in_ok-form.ensures c.argument_piece.ensures.pattern (c.in_ok-token.ensures.reads left)

pub returns-in_err-token-clause-free : goal.returns-in_err-token-clause-free
returns-in_err-token-clause-free c = exit_wrong _ _ _ c.from_residual.ensures (λ b. absurd (not_both c.in_err-token.ensures.wrong b))

pub returns-clause-lexeme : goal.returns-clause-lexeme
returns-clause-lexeme c = any_argument _ _ _ (c.in_ok-token.ensures.reads 0).spells
