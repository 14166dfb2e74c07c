use Rattle.std.proofs.Common.{◌≡◌, take, ◌++◌, map, true}
use Rattle.std.specs.List.{flat_map}
use Rattle.em_rules.specs.Groups.{order_for}
use Rattle.em_plan.specs.Makings.{need}
use Rattle.em_plan.proofs.needs.add_order.Given as goal

abbrev pub invariant-loop-member : goal.invariant-loop-member
invariant-loop-member l = l.needs ≡ l.fn.needs ++ map (need true) (flat_map (order_for l.rule) (take l.member-index l.members))
