use Rattle.std.proofs.Common.{◌≡◌, map, take}
use Rattle.em_rules.specs.Static.{rule_for}
use Rattle.em_rules.proofs.made.rules_for.Given as goal

abbrev pub invariant-loop-target : goal.invariant-loop-target
invariant-loop-target l = l.rules.items ≡ map (rule_for l.rule) (take l.target-index l.target-items)
