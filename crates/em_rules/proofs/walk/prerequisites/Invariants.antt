use Rattle.std.proofs.Common.{◌≡◌, take}
use Rattle.std.specs.List.{flat_map}
use Rattle.em_rules.specs.Rules.{prerequisites_at}
use Rattle.em_rules.proofs.walk.prerequisites.Given as goal

abbrev pub invariant-loop-number : goal.invariant-loop-number
invariant-loop-number l = l.list ≡ flat_map (prerequisites_at l.rules) (take l.number-index l.numbers)
