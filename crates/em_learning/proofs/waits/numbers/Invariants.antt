use Rattle.std.proofs.Common.{◌≡◌, ℕ, ◌&&◌, nat_eq, nat_lt, List, slice_get}
use Rattle.std.specs.FinMap.{get}
use Rattle.std.specs.List.{list_any}
use Rattle.em_learning.specs.Links.{is_target, listed}
use Rattle.em_learning.proofs.waits.numbers.Given as goal

abbrev pub invariant-loop-number : goal.invariant-loop-number
invariant-loop-number l = (name : List ℕ) (k : ℕ) → list_any (nat_eq k) (listed (get l.numbers name)) ≡ (nat_lt k l.number && is_target name (slice_get l.jobs k))
