use Rattle.std.proofs.Common.{◌≡◌, ℕ, ◌++◌, take, length, slice_get}
use Rattle.std.specs.Option.{option_map}
use Rattle.em_learning.specs.Links.{added_by}
use Rattle.em_learning.proofs.waits.add.Given as goal

abbrev pub invariant-loop-job : goal.invariant-loop-job
invariant-loop-job l = record {
  long : length l.waits ≡ length l.initial.waits;
  each : (k : ℕ) → slice_get l.waits k ≡ option_map (λ w. w ++ added_by k (take l.job-index l.made) l.needed) (slice_get l.initial.waits k);
}
