use Rattle.std.proofs.Common.{◌≡◌, take, ◌++◌}
use Rattle.std.specs.List.{flat_map}
use Rattle.em_plan.specs.Makings.{others_of}
use Rattle.em_plan.proofs.needs.add_others.Given as goal

abbrev pub invariant-loop-target : goal.invariant-loop-target
invariant-loop-target l = l.needs ≡ l.fn.needs ++ flat_map (others_of l.rules l.but) (take l.target-index l.targets)
