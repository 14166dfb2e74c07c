use Rattle.std.proofs.Common.{◌≡◌, ℕ, [], cond, get_or, length}
use Rattle.std.specs.Prelude.{nat_lt}
use Rattle.em_engine.specs.Waits.{times}
use Rattle.em_engine.proofs.ready.waiters_of.Given as goal

abbrev pub invariant-loop-job : goal.invariant-loop-job
invariant-loop-job l = record {
  count : length l.waiters.items ≡ length l.waits;
  each : (j k : ℕ) → times j (get_or l.waiters.items k []) ≡ cond (nat_lt j l.job) (times k (get_or l.waits j [])) 0;
}
