use Rattle.std.proofs.Common.{◌≡◌, map, take}
use Rattle.em_rules.specs.Static.{alone}
use Rattle.em_rules.proofs.made.each_alone.Given as goal

abbrev pub invariant-loop-target : goal.invariant-loop-target
invariant-loop-target l = l.rules.items ≡ map (alone l.rule) (take l.target-index l.target-items)
