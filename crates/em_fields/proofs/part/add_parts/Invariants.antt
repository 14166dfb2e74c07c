use Rattle.std.proofs.Common.{◌≡◌, ◌++◌, take}
use Rattle.em_fields.proofs.part.add_parts.Given as goal

abbrev pub invariant-loop-part : goal.invariant-loop-part
invariant-loop-part l = l.parts ≡ l.initial.parts ++ take l.part-index l.more
