use Rattle.std.proofs.Common.{◌≡◌, take, ◌++◌, not}
use Rattle.std.specs.List.{filter, flat_map}
use Rattle.em_rules.specs.Groups.{is_number}
use Rattle.em_plan.specs.Makings.{needs_for}
use Rattle.em_plan.proofs.needs.add_others_of.Given as goal

abbrev pub invariant-loop-number : goal.invariant-loop-number
invariant-loop-number l = l.needs ≡ l.fn.needs ++ flat_map (needs_for l.rules l.target) (filter (λ i. not (is_number i l.but)) (take l.number-index l.number-items))
