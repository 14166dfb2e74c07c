use Rattle.std.proofs.Common.{◌≡◌, ◌++◌, drop}
use Rattle.em_recipe.specs.Automatic.{once}
use Rattle.em_recipe.proofs.Doubles.{left, now}
use Rattle.em_recipe.proofs.automatic.once.Given as goal

abbrev pub invariant-loop-name : goal.invariant-loop-name
invariant-loop-name l = now l.first.items ++ left l.seen (now (drop l.name-index l.names)) ≡ once (now l.names)
