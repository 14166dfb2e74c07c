use Rattle.std.proofs.Common.{◌≡◌, drop}
use Rattle.std.specs.Option.{option_or}
use Rattle.em_rules.specs.Rules.{recipe_rule, recipe_from}
use Rattle.em_rules.proofs.walk.recipe.Given as goal

-- what was found, unless what is left has a later one
abbrev pub invariant-loop-i : goal.invariant-loop-i
invariant-loop-i l = option_or (recipe_from l.i (drop l.i l.rules) l.name) l.last ≡ recipe_rule l.rules l.name
