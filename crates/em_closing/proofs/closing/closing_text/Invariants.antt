use Rattle.std.proofs.Common.{◌≡◌, ◌++◌}
use Rattle.std.specs.Iterator.Adapters.{zip_first, zip_second}
use Rattle.std.specs.Slice.Iter.{iter_rest}
use Rattle.em_closing.specs.Closing.{goal_lines}
use Rattle.em_closing.proofs.closing.closing_text.Given as goal

abbrev pub invariant-loop-goal : goal.invariant-loop-goal
invariant-loop-goal l = l.text ++ goal_lines l.silent l.plan l.outcomes l.from (iter_rest (zip_first l.goal-iterator)) (iter_rest (zip_second l.goal-iterator)) ≡ goal_lines l.silent l.plan l.outcomes 0 l.goals l.plan.goals
