use Rattle.std.proofs.Common.{◌≡◌, ◌∙◌, List, Bor, map, sym, ap, arith}
use Rattle.std.proofs.lemmas.List.{take_all}
use Rattle.em_base.proofs.Lemmas.{map_map}
use Rattle.em_fields.specs.declared.part.Part.{Part}
use Rattle.em_fields.specs.Parts.{glyphs}
use Rattle.em_fields.proofs.split.fields.Goals as goal

pub returns : goal.returns
returns c =
    let now = λ (f : Bor (List Part)). f.now in
    let each = λ (f : Bor (List Part)). glyphs f.now in
    let items = c.in_ok-runs.runs.items in
    c.loop-run.invariant ∙ ap (map each) (take_all c.loop-run.run-index _ (omega (arith, c.loop-run-test.false))) ∙ ap (map each) c.deref-run-items.ensures.value ∙ sym (map_map glyphs now items) ∙ ap (map glyphs) c.in_ok-runs.ensures
