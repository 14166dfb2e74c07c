use Rattle.std.proofs.Common.{◌≡◌, replicate}
use Rattle.em_engine.specs.declared.event.Phase.TheVariants as phase
use Rattle.em_engine.proofs.board.free_phases.Given as goal

abbrev pub invariant-loop : goal.invariant-loop
invariant-loop g l = l.phases.items ≡ replicate l.counter phase.Free
