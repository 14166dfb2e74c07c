use Rattle.std.proofs.Common.{◌≡◌, ◌+◌, ℕ, get_or, length, take}
use Rattle.em_engine.specs.Waits.{times, IsMarked}
use Rattle.em_engine.proofs.ready.release.Given as goal

abbrev pub invariant-loop-job : goal.invariant-loop-job
invariant-loop-job l = record {
  left : (j : ℕ) → get_or l.left j 0 + times j (take l.job-index l.jobs) ≡ get_or l.initial.left j 0;
  room : length l.flagged ≡ length l.initial.flagged;
  marked : IsMarked l.stages l.left l.flagged;
}
