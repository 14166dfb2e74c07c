use Rattle.std.proofs.Common.{◌≡◌, length}
use Rattle.em_glob.specs.Patterns.{has}
use Rattle.em_glob.proofs.piece.has.Given as goal

abbrev pub invariant-loop-rest : goal.invariant-loop-rest
invariant-loop-rest l = has l.list l.byte ≡ has l.rest l.byte

abbrev pub decreases-loop-rest : goal.decreases-loop-rest
decreases-loop-rest l = length l.rest
