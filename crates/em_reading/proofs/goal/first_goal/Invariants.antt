use Rattle.std.proofs.Common.{◌≡◌, drop}
use Rattle.em_reading.specs.Start.{first_goal}
use Rattle.em_reading.proofs.goal.first_goal.Given as goal

abbrev pub invariant-loop-rule : goal.invariant-loop-rule
invariant-loop-rule l = first_goal l.rules ≡ first_goal (drop l.rule-index l.rules)
