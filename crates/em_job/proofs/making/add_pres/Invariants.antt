use Rattle.std.proofs.Common.{◌≡◌, ◌++◌, take}
use Rattle.std.specs.List.{filter}
use Rattle.em_recipe.specs.Automatic.{names_of}
use Rattle.em_rules.specs.Rules.{is_phony}
use Rattle.em_job.proofs.making.add_pres.Given as goal

abbrev pub invariant-loop-pre : goal.invariant-loop-pre
invariant-loop-pre l = l.names ≡ l.initial.names ++ filter (is_phony l.rules) (names_of (take l.pre-index l.pres))
