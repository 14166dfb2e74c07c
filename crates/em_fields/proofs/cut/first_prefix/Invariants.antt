use Rattle.std.proofs.Common.{◌≡◌, ◌+◌, ◌-◌, length}
use Rattle.em_fields.specs.Cuts.{first_from, is_prefix_to}
use Rattle.em_fields.proofs.cut.first_prefix.Given as goal

abbrev pub invariant-loop-i : goal.invariant-loop-i
invariant-loop-i l = first_from (is_prefix_to l.pattern l.text) 0 (length l.text + 1) ≡ first_from (is_prefix_to l.pattern l.text) l.i (length l.text + 1 - l.i)
