use Rattle.em_job.specs.Carrying.{AreRead}
use Rattle.em_job.proofs.ready.read_lines.Given as goal

abbrev pub invariant-loop-placed : goal.invariant-loop-placed
invariant-loop-placed l = AreRead l.yielded l.ready
