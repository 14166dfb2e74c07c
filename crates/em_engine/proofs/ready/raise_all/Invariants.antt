use Rattle.std.proofs.Common.{◌≡◌, ◌==◌, ◌<◌, ◌≤◌, ℕ, false, get_or, length}
use Rattle.em_engine.specs.Waits.{flag}
use Rattle.em_engine.proofs.ready.raise_all.Given as goal

abbrev pub invariant-loop-job : goal.invariant-loop-job
invariant-loop-job l = record {
  room : length l.flagged ≡ length l.initial.flagged;
  done : (j : ℕ) → j < l.job → flag l.flagged j ≡ (get_or l.left j 1 == 0);
  rest : (j : ℕ) → l.job ≤ j → flag l.flagged j ≡ false;
}
