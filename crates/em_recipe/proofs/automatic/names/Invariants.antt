use Rattle.std.proofs.Common.{◌≡◌, ◌++◌, drop}
use Rattle.em_recipe.specs.Automatic.{names_of}
use Rattle.em_recipe.proofs.Doubles.{now}
use Rattle.em_recipe.proofs.automatic.names.Given as goal

abbrev pub invariant-loop-pre : goal.invariant-loop-pre
invariant-loop-pre l = now l.names.items ++ names_of (drop l.pre-index l.pres) ≡ names_of l.pres
