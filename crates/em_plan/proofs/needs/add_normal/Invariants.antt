use Rattle.std.proofs.Common.{◌≡◌, take, ◌++◌, map, false}
use Rattle.std.specs.List.{flat_map}
use Rattle.em_rules.specs.Groups.{normal_for}
use Rattle.em_plan.specs.Makings.{need}
use Rattle.em_plan.proofs.needs.add_normal.Given as goal

abbrev pub invariant-loop-member : goal.invariant-loop-member
invariant-loop-member l = l.needs ≡ l.fn.needs ++ map (need false) (flat_map (normal_for l.rule) (take l.member-index l.members))
