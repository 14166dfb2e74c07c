use Rattle.std.proofs.Common.{◌≡◌, ◌<◌, ℕ, slice_get}
use Rattle.std.specs.Prelude.{IfSome}
use Rattle.em_engine_tests.proofs.engine.fronts.are_numbered.Given as goal

abbrev pub invariant-loop-i : goal.invariant-loop-i
invariant-loop-i l = (k : ℕ) → k < l.i → IfSome (slice_get l.specs k) (λ m. m.job ≡ k)
