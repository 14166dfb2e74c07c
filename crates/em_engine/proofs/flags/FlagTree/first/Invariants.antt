use Rattle.std.proofs.Common.{◌≡◌, ◌<◌, ◌≤◌, ◌*◌, ◌^◌, ℕ, true, false}
use Rattle.em_engine.specs.Flags.{node}
use Rattle.em_engine.proofs.flags.FlagTree.first.Given as goal

abbrev pub invariant-loop : goal.invariant-loop
invariant-loop l = record {
  from : 2 ^ l.counter ≤ l.node;
  to : l.node < 2 * 2 ^ l.counter;
  here : node l.self-inside.any.items l.node ≡ true;
  before : (k : ℕ) → 2 ^ l.counter ≤ k → k < l.node → node l.self-inside.any.items k ≡ false;
}
