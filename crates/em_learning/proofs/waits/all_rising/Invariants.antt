use Rattle.std.proofs.Common.{◌≡◌, map}
use Rattle.em_plan.specs.Jobs.{rising}
use Rattle.em_learning.proofs.waits.all_rising.Given as goal

abbrev pub invariant-loop-numbers : goal.invariant-loop-numbers
invariant-loop-numbers l = l.risen ≡ map rising l.yielded
