use Rattle.std.proofs.Common.{◌≡◌, ◌∙◌, ap, rules, tests, Bor, List, map, length}
use Rattle.std.specs.Prelude.{nat_lt}
use Rattle.std.specs.List.{filter}
use Rattle.std.proofs.lemmas.Fn.{filter_same}
use Rattle.em_base.proofs.Lemmas.{map_filter}
use Rattle.em_fields.specs.declared.part.Part.{Part}
use Rattle.em_fields.proofs.split.runs.Goals as goal

pub returns : goal.returns
returns c =
    let filled = λ (w : Bor (List Part)). nat_lt 0 (length w.now) in
    let parts = c.in_ok-runs.runs.items in
    let kept : c.retain.new.self.items ≡ filter filled parts = filter_same _ filled _ (λ x b q k. search (rules, tests)) parts c.retain.new.self.items c.retain.ensures.filtered in
    ap (map (λ (w : Bor (List Part)). w.now)) kept ∙ map_filter (λ w. nat_lt 0 (length w)) (λ w. w.now) parts ∙ ap (filter (λ w. nat_lt 0 (length w))) c.in_ok-runs.ensures
