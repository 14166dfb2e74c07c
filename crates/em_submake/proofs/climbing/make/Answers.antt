use Rattle.std.proofs.Common.{arith}
use Rattle.em_submake.specs.Submakes.{whole, deeper_at}
use Rattle.em_submake.specs.Climbing.{rest_of}
use Rattle.em_submake.proofs.Going.{begins}
use Rattle.em_submake.proofs.climbing.make.Goals as goal

pub turns-init : goal.turns-init
unfolding rest_of
turns-init g c = record {
  goes = λ new after r p. begins (whole (deeper_at (g.M.Maker.job_of c.args.maker.now) 8) (g.J.Steps.plot c.args.first)) (rw c.new-levels.ensures at p);
  sound = rw c.new-levels.ensures (omega arith, λ k d less. absurd (omega (arith, less)));
}

pub turns-preserved : goal.turns-preserved
turns-preserved g c = let q = rw c.in-Job.is at c.in_ok-job.ensures.goes in record {
  goes = λ new after r p. c.turns.invariant.goes new after r (q.0 new after r p);
  sound = q.1;
}

pub returns-in-Done : goal.returns-in-Done
returns-in-Done g c = c.turns.invariant.goes _ _ _ (rw c.in-Done.is at c.in_ok-job.ensures.goes)
