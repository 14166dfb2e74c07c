use Rattle.std.proofs.Common.{◌≡◌, ◌++◌, drop}
use Rattle.em_program.proofs.build.copied.Given as goal

abbrev pub invariant-loop-jobs : goal.invariant-loop-jobs
invariant-loop-jobs l = l.copy ++ drop l.jobs-index l.waits ≡ l.waits
