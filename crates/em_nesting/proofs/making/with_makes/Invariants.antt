use Rattle.std.proofs.Common.{◌≡◌}
use Rattle.em_nesting.proofs.making.with_makes.Given as goal

abbrev pub invariant-loop-job : goal.invariant-loop-job
invariant-loop-job l = l.all.items ≡ l.yielded
