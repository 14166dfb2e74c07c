use Rattle.std.proofs.Common.{◌≡◌, ◌<◌, ℕ, slice_get}
use Rattle.std.specs.Prelude.{IfSome}
use Rattle.em_testing.proofs.plans.are_numbered.Given as goal

abbrev pub invariant-loop-i : goal.invariant-loop-i
invariant-loop-i g l = (k : ℕ) → k < l.i → IfSome (slice_get l.specs k) (λ s. g.S.Spec.job_of s ≡ k)
