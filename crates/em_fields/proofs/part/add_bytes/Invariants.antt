use Rattle.std.proofs.Common.{◌≡◌, ◌++◌, map, take}
use Rattle.em_fields.specs.Parts.{mark, part_of}
use Rattle.em_fields.proofs.part.add_bytes.Given as goal

abbrev pub invariant-loop-byte : goal.invariant-loop-byte
invariant-loop-byte l = l.parts ≡ l.initial.parts ++ map (part_of l.quoted) (take l.byte-index l.text)
