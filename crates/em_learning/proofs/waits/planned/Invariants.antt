use Rattle.std.proofs.Common.{◌≡◌, map, take}
use Rattle.em_learning.proofs.waits.planned.Given as goal

abbrev pub invariant-loop-job : goal.invariant-loop-job
invariant-loop-job l = l.waits.items ≡ map (λ j. j.waits) (take l.job-index l.jobs)
