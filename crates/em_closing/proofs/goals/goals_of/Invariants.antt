use Rattle.std.proofs.Common.{◌≡◌, map}
use Rattle.em_closing.specs.Closing.{goal_in}
use Rattle.em_closing.proofs.goals.goals_of.Given as goal

abbrev pub invariant-loop-name : goal.invariant-loop-name
invariant-loop-name l = l.goals ≡ map (goal_in l.book) l.yielded
