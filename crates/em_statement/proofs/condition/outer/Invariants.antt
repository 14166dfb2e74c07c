use Rattle.std.proofs.Common.{◌≡◌, ◌+◌, ◌≤◌, drop}
use Rattle.std.specs.Prelude.{option_map}
use Rattle.em_statement.specs.Conditions.{outer}
use Rattle.em_statement.proofs.condition.outer.Given as goal

abbrev pub invariant-loop-at : goal.invariant-loop-at
invariant-loop-at l = (l.depth ≤ l.at) × (outer l.stop 0 l.shape ≡ option_map (λ k. l.at + k) (outer l.stop l.depth (drop l.at l.shape)))
