use Rattle.std.proofs.Common.{◌≡◌, ◌≤◌, drop}
use Rattle.em_image.specs.Parts.{value_after, value}
use Rattle.em_image.proofs.numbers.value_up_to.Given as goal

abbrev pub invariant-loop-byte : goal.invariant-loop-byte
invariant-loop-byte l = record {
  small : l.number ≤ l.limit;
  spelled : value_after l.number (drop l.byte-index l.digits) ≡ value l.digits;
}
