use Rattle.std.proofs.Common.{◌≡◌, ◌++◌, take}
use Rattle.std.specs.List.{filter}
use Rattle.em_rules.specs.Rules.{is_phony}
use Rattle.em_job.proofs.making.add_targets.Given as goal

abbrev pub invariant-loop-target : goal.invariant-loop-target
invariant-loop-target l = l.names ≡ l.initial.names ++ filter (is_phony l.rules) (take l.target-index l.targets)
