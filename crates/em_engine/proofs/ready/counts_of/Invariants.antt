use Rattle.std.proofs.Common.{◌≡◌, map, take, length}
use Rattle.em_engine.proofs.ready.counts_of.Given as goal

abbrev pub invariant-loop-jobs : goal.invariant-loop-jobs
invariant-loop-jobs l = l.left.items ≡ map length (take l.jobs-index l.waits)
