use Rattle.std.proofs.Common.{◌≡◌, take, map}
use Rattle.em_plan.specs.Resuming.{numbers_in}
use Rattle.em_plan.proofs.goals.numbers.Given as goal

abbrev pub invariant-loop-name : goal.invariant-loop-name
invariant-loop-name l = l.all ≡ map (numbers_in l.marks) (take l.name-index l.names)
