use Rattle.std.proofs.Common.{◌≡◌, ◌+◌, ◌≤◌, length, drop}
use Rattle.em_fields.specs.Parts.{glyphs}
use Rattle.em_fields.proofs.part.size.Given as goal

abbrev pub invariant-loop-part : goal.invariant-loop-part
invariant-loop-part l = (l.size + length (glyphs (drop l.part-index l.parts)) ≡ length (glyphs l.parts)) × (l.size ≤ l.part-index)
