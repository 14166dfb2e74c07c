use Rattle.std.proofs.Common.{◌≡◌, take, ◌++◌, map}
use Rattle.em_plan.specs.Makings.{need}
use Rattle.em_plan.proofs.needs.add_names.Given as goal

abbrev pub invariant-loop-name : goal.invariant-loop-name
invariant-loop-name l = l.needs ≡ l.fn.needs ++ map (need l.order) (take l.name-index l.names)
