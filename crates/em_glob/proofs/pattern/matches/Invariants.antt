use Rattle.em_glob.proofs.Way.{Way, left}
use Rattle.em_glob.proofs.pattern.matches.Given as goal

abbrev pub invariant-loop-at : goal.invariant-loop-at
invariant-loop-at l = Way l.pattern l.name l.at l.star

abbrev pub decreases-loop-at : goal.decreases-loop-at
decreases-loop-at l = left l.pattern l.name l.at l.star
