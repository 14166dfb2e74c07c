use Rattle.std.proofs.Common.{[], ◌∷◌}
use Rattle.em_implicit.specs.Asking.{Follows}
use Rattle.em_plan.specs.Walking.{asks_for}
use Rattle.em_plan.specs.Resuming.{opens, after, resume, AreMarked, weight}
use Rattle.em_plan.proofs.walk.walk_unit.Given as goal

abbrev pub invariant-loop-frame : goal.invariant-loop-frame
invariant-loop-frame g l = record {
  marked : AreMarked l.walk.marks (opens l.walk.begun) l.walk.walked.jobs;
  end : Follows g.T.There.asks l.initial.there l.there (after (asks_for l.makefile) [] l.goal (l.fn.making ∷ []) l.fn.walk.walked) (resume (asks_for l.makefile) l.walk.begun l.walk.walked);
}

abbrev pub decreases-loop-frame : goal.decreases-loop-frame
decreases-loop-frame g l = weight l.walk.begun l.walk.walked.jobs
