use Rattle.std.proofs.Common.{◌≡◌, ◌≤◌, ◌<◌, ℕ, length, get_or}
use Rattle.em_insight.proofs.dispatch.first_free.Given as goal

abbrev pub invariant-loop-moment : goal.invariant-loop-moment
invariant-loop-moment l = record {
  some : (a : ℕ) × (a < length l.free) × (get_or l.free a 0 ≡ l.first);
  least : (a : ℕ) → a < l.moment-index → l.first ≤ get_or l.free a 0;
}
