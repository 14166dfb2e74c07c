use Rattle.std.proofs.Common.{◌≡◌, ℕ, length, get_or}
use Rattle.em_insight.proofs.dispatch.idle.Given as goal

abbrev pub invariant-loop-agent : goal.invariant-loop-agent
invariant-loop-agent l = record {
  count : length l.free.items ≡ l._agent;
  free : (a : ℕ) → get_or l.free.items a 0 ≡ 0;
}
