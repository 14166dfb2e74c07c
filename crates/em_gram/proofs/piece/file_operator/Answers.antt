use Rattle.std.proofs.Common.{◌∙◌, sym, refl}
use Rattle.em_grammar.proofs.Giving.{left_on, right_on, gives_left, gives_right}
use Rattle.em_token.specs.Shell.{shell}
use Rattle.em_token.proofs.Tokens.{off}
use Rattle.em_gram.proofs.piece.file_operator.Goals as goal

pub returns-in_err-rest-clause-reads : goal.returns-in_err-rest-clause-reads
returns-in_err-rest-clause-reads c = λ left. off left _ _ _ _ _ c.from_residual.ensures (gives_left shell left _ _ _ _ (sym c.opens.ensures ∙ c.if-opens.true) (c.in_err-rest.ensures.reads left))

pub returns-then-opens-clause-reads : goal.returns-then-opens-clause-reads
returns-then-opens-clause-reads c = λ left. left_on shell (sym c.opens.ensures ∙ c.if-opens.true) (c.in_ok-rest.ensures.reads left)

pub returns-in_err-rest-2-clause-reads : goal.returns-in_err-rest-2-clause-reads
returns-in_err-rest-2-clause-reads c = λ left. off left _ _ _ _ _ c.from_residual-in_err-rest-2.ensures (gives_right shell left _ _ _ _ refl (sym c.opens.ensures ∙ c.if-opens.false) (gives_left shell left _ _ _ _ (sym c.opens-2.ensures ∙ c.if-opens-2.true) (c.in_err-rest-2.ensures.reads left)))

pub returns-then-opens-2-clause-reads : goal.returns-then-opens-2-clause-reads
returns-then-opens-2-clause-reads c = λ left. right_on shell refl (sym c.opens.ensures ∙ c.if-opens.false) (left_on shell (sym c.opens-2.ensures ∙ c.if-opens-2.true) (c.in_ok-rest-2.ensures.reads left))

pub returns-in_err-rest-3-clause-reads : goal.returns-in_err-rest-3-clause-reads
returns-in_err-rest-3-clause-reads c = λ left. off left _ _ _ _ _ c.from_residual-in_err-rest-3.ensures (gives_right shell left _ _ _ _ refl (sym c.opens.ensures ∙ c.if-opens.false) (gives_right shell left _ _ _ _ refl (sym c.opens-2.ensures ∙ c.if-opens-2.false) (c.in_err-rest-3.ensures.reads left)))

pub returns-clause-reads : goal.returns-clause-reads
returns-clause-reads c = λ left. right_on shell refl (sym c.opens.ensures ∙ c.if-opens.false) (right_on shell refl (sym c.opens-2.ensures ∙ c.if-opens-2.false) (c.in_ok-rest-3.ensures.reads left))
