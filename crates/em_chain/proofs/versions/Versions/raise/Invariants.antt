use Rattle.std.proofs.Common.{◌≤◌}
use Rattle.em_chain.specs.Floors.{IsRaised}
use Rattle.em_chain.proofs.versions.Versions.raise.Given as goal

abbrev pub invariant-loop-job : goal.invariant-loop-job
invariant-loop-job l = record { from : l.initial.self.floor ≤ l.job; upto : l.job ≤ l.to; raised : IsRaised l.initial.self l.job l.self }
