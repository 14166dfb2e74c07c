use Rattle.std.proofs.Common.{◌≡◌, ◌≢◌, ◌<◌, ◌≤◌, ◌+◌, ◌*◌, ◌^◌, ℕ, length, drop, ◌||◌}
use Rattle.em_engine.specs.Flags.{node}
use Rattle.em_engine.proofs.flags.FlagTree.put.Given as goal

abbrev pub invariant-loop-node : goal.invariant-loop-node
invariant-loop-node l = record {
  within : l.node < 2 * l.self-inside.width;
  wide : l.self-inside.width ≡ 2 ^ l.self-inside.levels;
  few : l.self-inside.levels ≤ 32;
  whole : length l.self-inside.any.items ≡ 2 * l.self-inside.width;
  same_width : l.self-inside.width ≡ l.initial.self-inside.width;
  flags : drop l.self-inside.width l.self-inside.any.items ≡ drop l.initial.self-inside.width l.initial.self-inside.any.items;
  tells : (k : ℕ) → 0 < k → k < l.self-inside.width → 2 * k ≢ l.node → 2 * k + 1 ≢ l.node
      → node l.self-inside.any.items k ≡ (node l.self-inside.any.items (2 * k) || node l.self-inside.any.items (2 * k + 1));
}

abbrev pub decreases-loop-node : goal.decreases-loop-node
decreases-loop-node l = l.node
