use Rattle.std.proofs.Common.{◌≡◌, ◌≤◌, length}
use Rattle.em_rules.specs.Dots.{undotted}
use Rattle.em_rules.proofs.dots.undotted.Given as goal

abbrev pub invariant-loop-rest : goal.invariant-loop-rest
invariant-loop-rest l = (undotted l.rest ≡ undotted l.name) × (length l.rest ≤ length l.name)

abbrev pub decreases-loop-rest : goal.decreases-loop-rest
decreases-loop-rest l = length l.rest
