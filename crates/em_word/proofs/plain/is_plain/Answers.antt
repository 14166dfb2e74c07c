use Rattle.std.proofs.Common.{◌∙◌, ◌&&◌, not, ap}
use Rattle.std.specs.List.{list_all}
use Rattle.em_word.specs.Literal.{is_ordinary}
use Rattle.em_word.proofs.plain.is_plain.Goals as goal

pub returns-then-not-is_empty : goal.returns-then-not-is_empty
returns-then-not-is_empty c = c.are_ordinary.ensures ∙ ap (λ b. not b && list_all is_ordinary c.args.text.now) c.if-not-is_empty.ensures
