use Rattle.std.proofs.Common.{◌≡◌, take}
use Rattle.em_workers.proofs.phases.copied.Given as goal

abbrev pub invariant-loop-jobs : goal.invariant-loop-jobs
invariant-loop-jobs l = l.all ≡ take l.jobs-index l.waits
