use Rattle.std.proofs.Common.{◌≡◌, [], ◌-◌, length}
use Rattle.em_implicit.specs.Asking.{Follows}
use Rattle.em_plan.specs.Jobs.{numbers_of}
use Rattle.em_plan.specs.Order.{limit}
use Rattle.em_plan.specs.Walking.{asks_for, visiting}
use Rattle.em_plan.specs.Resuming.{AreMarked}
use Rattle.em_plan.proofs.Sought.{most}
use Rattle.em_plan.proofs.walk.walk_from.Given as goal

abbrev pub invariant-loop-making : goal.invariant-loop-making
invariant-loop-making g l = record {
  marked : AreMarked l.walk.marks [] l.walk.walked.jobs;
  empty : l.walk.begun ≡ [];
  end : Follows g.T.There.asks l.initial.there l.there (visiting (asks_for l.makefile) limit [] l.fn.walk.walked l.goal) (visiting (asks_for l.makefile) limit [] l.walk.walked l.goal);
}

-- the units that have no number
abbrev pub decreases-loop-making : goal.decreases-loop-making
decreases-loop-making g l = most l.makefile.book.now.rules l.goal - length (numbers_of l.walk.walked.jobs l.goal)
