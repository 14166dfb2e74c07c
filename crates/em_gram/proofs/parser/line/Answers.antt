use Rattle.std.proofs.Common.{◌∙◌, sym, refl}
use Rattle.em_grammar.proofs.Giving.{then_on, then_off, left_on, right_on, gives_left, reads_empty}
use Rattle.em_token.specs.Shell.{shell}
use Rattle.em_token.proofs.Tokens.{off}
use Rattle.em_gram.proofs.Choices.{respelled}
use Rattle.em_gram.proofs.Holding.{script_body}
use Rattle.em_gram.proofs.parser.line.Goals as goal

pub returns-in_err-script : goal.returns-in_err-script
returns-in_err-script c = off 64 _ _ _ _ _ c.from_residual.ensures (then_off shell _ (c.newlines-rest.ensures.reads 64) _ (gives_left shell 64 _ _ _ _ (sym c.opens_list.ensures ∙ c.if-opens_list.true) c.in_err-script.ensures.reads))

pub returns-then-opens_list : goal.returns-then-opens_list
returns-then-opens_list c = then_on shell (c.newlines-rest.ensures.reads 64) (left_on shell (sym c.opens_list.ensures ∙ c.if-opens_list.true) (respelled c.in_ok-script.ensures.reads (script_body c.in_ok-script.script)))

pub returns : goal.returns
returns c = rw c.no_commands.ensures (then_on shell (c.newlines-rest.ensures.reads 64) (right_on shell refl (sym c.opens_list.ensures ∙ c.if-opens_list.false) (reads_empty shell 64 _)))
