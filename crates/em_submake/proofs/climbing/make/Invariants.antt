use Rattle.em_submake.specs.Submakes.{made}
use Rattle.em_submake.specs.Climbing.{GoesW, AreSound, rest_of, weight}
use Rattle.em_submake.proofs.climbing.make.Given as goal

abbrev pub invariant-turns : goal.invariant-turns
invariant-turns g l = record {
  goes : GoesW g.V.View.tells l.initial.desk l.desk l.initial.out l.out (made (g.M.Maker.job_of l.maker) (g.J.Steps.plot l.initial.current)) (rest_of (g.M.Maker.job_of l.maker) g.J.Steps.plot g.J.Steps.back l.current l.levels);
  sound : AreSound l.levels;
}

abbrev pub decreases-turns : goal.decreases-turns
decreases-turns g l = weight l.desk.work.fuel l.levels
