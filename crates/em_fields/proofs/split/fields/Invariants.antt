use Rattle.std.proofs.Common.{◌≡◌, map, take, Bor, List}
use Rattle.em_fields.specs.declared.part.Part.{Part}
use Rattle.em_fields.specs.Parts.{glyphs}
use Rattle.em_fields.proofs.split.fields.Given as goal

abbrev pub invariant-loop-run : goal.invariant-loop-run
invariant-loop-run l = l.fields ≡ map (λ (f : Bor (List Part)). glyphs f.now) (take l.run-index l.run-items)
