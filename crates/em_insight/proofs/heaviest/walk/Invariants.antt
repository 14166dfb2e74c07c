use Rattle.std.proofs.Common.{◌≡◌, ◌<◌, ℕ, ◌++◌, List, length, Some}
use Rattle.em_insight.specs.Links.{IsWalk}
use Rattle.em_insight.proofs.Linking.{steps_left}
use Rattle.em_insight.proofs.heaviest.walk.Given as goal

-- who walks on has walked all the way
abbrev pub invariant-loop-next : goal.invariant-loop-next
invariant-loop-next l = record {
  walked : (rest : List ℕ) → IsWalk l.before l.next rest → IsWalk l.before l.fn.last (l.back.items ++ rest);
  within : (j : ℕ) → l.next ≡ Some j → j < length l.before;
}

abbrev pub decreases-loop-next : goal.decreases-loop-next
decreases-loop-next l = steps_left l.next
