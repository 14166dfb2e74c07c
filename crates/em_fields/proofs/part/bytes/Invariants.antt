use Rattle.std.proofs.Common.{◌≡◌, ◌++◌, drop}
use Rattle.em_fields.specs.Parts.{bytes as all_of}
use Rattle.em_fields.proofs.part.bytes.Given as goal

abbrev pub invariant-loop-part : goal.invariant-loop-part
invariant-loop-part l = l.text ++ all_of (drop l.part-index l.parts) ≡ all_of l.parts
