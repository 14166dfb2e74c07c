use Rattle.std.proofs.Common.{◌<◌, ℕ, slice_get}
use Rattle.std.specs.Prelude.{IfSome}
use Rattle.em_engine.specs.Verdicts.{AgreesAt}
use Rattle.em_engine.proofs.front.first_wrong.Given as goal

abbrev pub invariant-loop-i : goal.invariant-loop-i
invariant-loop-i l = (k : ℕ) → k < l.i → IfSome (slice_get l.es k) (AgreesAt l.state)
