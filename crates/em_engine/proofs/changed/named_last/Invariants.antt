use Rattle.std.proofs.Common.{◌≡◌, ◌≤◌, length, take}
use Rattle.em_engine.specs.Fronts.{named_last}
use Rattle.em_engine.proofs.changed.named_last.Given as goal

-- no delta behind those that are left names the path
abbrev pub invariant-loop-left : goal.invariant-loop-left
invariant-loop-left l = (named_last l.deltas l.p ≡ named_last (take l.left l.deltas) l.p) × (l.left ≤ length l.deltas)

abbrev pub decreases-loop-left : goal.decreases-loop-left
decreases-loop-left l = l.left
