use Rattle.std.proofs.Common.{◌<◌, ℕ, [], All, get_or}
use Rattle.em_engine_tests.proofs.engine.boards.are_lower.Given as goal

abbrev pub invariant-loop-job : goal.invariant-loop-job
invariant-loop-job l = (k : ℕ) → k < l.job → All (λ i. i < k) (get_or l.waits k [])
