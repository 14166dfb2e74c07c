use Rattle.std.proofs.Common.{◌≡◌, ◌++◌, drop}
use Rattle.em_recipe.proofs.Doubles.{now}
use Rattle.em_recipe.proofs.automatic.bytes_of.Given as goal

abbrev pub invariant-loop-text : goal.invariant-loop-text
invariant-loop-text l = now l.all.items ++ drop l.text-index l.texts ≡ l.texts
