use Rattle.std.proofs.Common.{◌≡◌, ◌+◌, ◌-◌, length}
use Rattle.em_fields.specs.Cuts.{first_from, is_suffix_at}
use Rattle.em_fields.proofs.cut.last_suffix.Given as goal

abbrev pub invariant-loop-i : goal.invariant-loop-i
invariant-loop-i l = first_from (λ i. is_suffix_at l.pattern l.text (length l.text - i)) 0 (length l.text + 1) ≡ first_from (λ i. is_suffix_at l.pattern l.text (length l.text - i)) l.i (length l.text + 1 - l.i)
