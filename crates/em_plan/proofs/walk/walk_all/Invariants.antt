use Rattle.std.proofs.Common.{◌≡◌, [], drop}
use Rattle.em_implicit.specs.Asking.{Follows}
use Rattle.em_plan.specs.Order.{nothing_walked}
use Rattle.em_plan.specs.Walking.{asks_for, visiting_all}
use Rattle.em_plan.specs.Resuming.{AreMarked}
use Rattle.em_plan.proofs.walk.walk_all.Given as goal

abbrev pub invariant-loop-goal : goal.invariant-loop-goal
invariant-loop-goal g l = record {
  marked : AreMarked l.walk.marks [] l.walk.walked.jobs;
  empty : l.walk.begun ≡ [];
  end : Follows g.T.There.asks l.initial.there l.there (visiting_all (asks_for l.makefile) l.goals nothing_walked) (visiting_all (asks_for l.makefile) (drop l.goal-index l.goals) l.walk.walked);
}
