use Rattle.std.proofs.Common.{◌≡◌, ◌++◌, drop}
use Rattle.em_fields.specs.Parts.{glyphs as all_of}
use Rattle.em_fields.proofs.part.glyphs.Given as goal

abbrev pub invariant-loop-part : goal.invariant-loop-part
invariant-loop-part l = l.glyphs ++ all_of (drop l.part-index l.parts) ≡ all_of l.parts
