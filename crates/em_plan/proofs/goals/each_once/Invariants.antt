use Rattle.std.proofs.Common.{◌≡◌, ℕ, List, [], drop, is_some}
use Rattle.std.specs.FinMap.{get}
use Rattle.em_plan.specs.Once.{each_once, is_among}
use Rattle.em_plan.proofs.goals.each_once.Given as goal

abbrev pub invariant-loop-goal : goal.invariant-loop-goal
invariant-loop-goal l = record {
  there : (q : List ℕ) → is_some (get l.there q) ≡ is_among l.names q;
  end : each_once l.names (drop l.goal-index l.goals) ≡ each_once [] l.goals;
}
