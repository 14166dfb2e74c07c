use Rattle.std.proofs.Common.{◌∙◌, rules, tests, ap}
use Rattle.std.specs.Prelude.{◌==◌, not}
use Rattle.std.proofs.lemmas.List.Elements.{filter_from_retain}
use Rattle.em_view.specs.declared.done.Piece.{Piece}
use Rattle.em_command.specs.Heres.{off}
use Rattle.em_command.proofs.here.rest_of.Goals as goal

pub returns : goal.returns
returns c = c.from_vec.ensures ∙ filter_from_retain _ (λ (p : Piece). not (p.stream == 1)) (λ f x b q k. search (rules, tests)) _ _ _ c.retain.ensures.filtered ∙ ap (off 1) c.into_vec-all.ensures
