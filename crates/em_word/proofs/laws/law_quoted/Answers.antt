use Rattle.std.proofs.Common.{◌∙◌, true, [], ◌∷◌, map, ap}
use Rattle.em_view.specs.Actions.{done}
use Rattle.em_fields.specs.Parts.{glyph}
use Rattle.em_word.specs.Turns.{Finished, expanded}
use Rattle.em_word.proofs.Literals.{all_quoted, itself, same_bytes}
use Rattle.em_word.proofs.laws.law_quoted.Goals as goal

pub returns : goal.returns
returns c = λ cwd text. ap (expanded cwd) (c.law_quoted-2.ensures text) ∙ itself cwd (map (glyph true) text) (c.law_quoted.ensures (map (glyph true) text) (all_quoted text)) ∙ ap (λ t. done (Finished (t ∷ []))) (same_bytes true text)
