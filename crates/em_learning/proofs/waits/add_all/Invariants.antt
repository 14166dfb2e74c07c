use Rattle.std.proofs.Common.{◌≡◌, ℕ, ◌++◌, take, slice_get}
use Rattle.std.specs.FinMap.{get}
use Rattle.std.specs.Option.{option_map}
use Rattle.em_learning.specs.Links.{added, listed}
use Rattle.em_learning.proofs.waits.add_all.Given as goal

abbrev pub invariant-loop-made : goal.invariant-loop-made
invariant-loop-made l = (k : ℕ) → slice_get l.waits k ≡ option_map (λ w. w ++ added (λ name. listed (get l.numbers name)) (take l.made-index l.pairs) k) (slice_get l.initial.waits k)
