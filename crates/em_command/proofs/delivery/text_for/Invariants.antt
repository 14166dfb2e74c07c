use Rattle.std.proofs.Common.{◌≡◌, ◌++◌, drop}
use Rattle.em_command.specs.Delivering as delivering
use Rattle.em_command.proofs.delivery.text_for.Given as goal

abbrev pub invariant-loop-piece : goal.invariant-loop-piece
invariant-loop-piece l = l.all ++ delivering.text_for l.streams l.i (drop l.piece-index l.pieces) ≡ delivering.text_for l.streams l.i l.pieces
