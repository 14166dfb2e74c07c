use Rattle.std.proofs.Common.{refl}
use Rattle.em_plan.proofs.Asked.{there_none}
use Rattle.em_plan.proofs.goals.each_once.Goals as goal

pub loop-goal-init : goal.loop-goal-init
loop-goal-init c = record {
  there = rw (c.new-there.ensures, c.new-names.ensures) there_none;
  end = rw c.new-names.ensures refl;
}
