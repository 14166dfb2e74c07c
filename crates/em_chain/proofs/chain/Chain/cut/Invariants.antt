use Rattle.std.proofs.Common.{◌≡◌, ◌≤◌, drop}
use Rattle.em_chain.proofs.chain.Chain.cut.Given as goal

abbrev pub invariant-loop : goal.invariant-loop
invariant-loop l = record { left : l.self-inside.held.items ≡ drop l.counter l.initial.self-inside.held.items; within : l.counter ≤ l.below }
