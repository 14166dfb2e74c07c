use Rattle.std.proofs.Common.{refl}
use Rattle.em_job.proofs.Reading.{read_more}
use Rattle.em_job.proofs.ready.read_lines.Goals as goal

pub loop-placed-preserved : goal.loop-placed-preserved
loop-placed-preserved c = rw c.in_ok-push.ensures.ok (read_more _ _ _ _ c.loop-placed.invariant refl (rw c.bytes.ensures at c.in_ok-line.ensures))
