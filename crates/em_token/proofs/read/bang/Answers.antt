use Rattle.std.proofs.Common.{◌∙◌, sym, refl}
use Rattle.em_grammar.proofs.Giving.{left_on, right_on, gives_left, reads_empty}
use Rattle.em_token.specs.Shell.{shell}
use Rattle.em_token.proofs.Tokens.{off}
use Rattle.em_token.proofs.read.bang.Goals as goal

pub returns-in_err-rest-clause-reads : goal.returns-in_err-rest-clause-reads
returns-in_err-rest-clause-reads c = λ left. off left _ _ _ _ _ c.from_residual.ensures (gives_left shell left _ _ _ _ (sym c.opens.ensures ∙ c.if-opens.true) (c.in_err-rest.ensures.reads left))

pub returns-then-opens-clause-reads : goal.returns-then-opens-clause-reads
returns-then-opens-clause-reads c = λ left. left_on shell (sym c.opens.ensures ∙ c.if-opens.true) (c.in_ok-rest.ensures.reads left)

pub returns-clause-reads : goal.returns-clause-reads
returns-clause-reads c = λ left. right_on shell refl (sym c.opens.ensures ∙ c.if-opens.false) (reads_empty shell left _)
