use Rattle.std.proofs.Common.{◌≡◌, ◌≤◌, ◌-◌, length}
use Rattle.em_refs.specs.Parts.{with_front, parted}
use Rattle.em_refs.specs.Steps.{rest_from}
use Rattle.em_refs.proofs.read.parts_before.Given as goal

-- the parts so far and those of the rest are the parts of the text
abbrev pub invariant-loop-at : goal.invariant-loop-at
invariant-loop-at l = record {
  within : l.at ≤ length l.text;
  goes_on : parted l.text ≡ with_front l.parts (rest_from l.text l.at);
}

abbrev pub decreases-loop-at : goal.decreases-loop-at
decreases-loop-at l = length l.text - l.at
