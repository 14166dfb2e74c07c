use Rattle.std.proofs.Common.{◌≡◌, ◌+◌, ◌==◌, ℕ, [], cond, take, get_or}
use Rattle.em_engine.specs.Waits.{times}
use Rattle.em_engine.proofs.ready.note_waiter.Given as goal

abbrev pub invariant-loop-k : goal.invariant-loop-k
invariant-loop-k l = (j k : ℕ) → times j (get_or l.waiters k []) ≡ times j (get_or l.initial.waiters k []) + cond (l.job == j) (times k (take l.k-index l.jobs)) 0
