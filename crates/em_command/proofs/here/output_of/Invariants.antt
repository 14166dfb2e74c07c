use Rattle.std.proofs.Common.{◌≡◌, ◌++◌, drop}
use Rattle.em_command.specs.Heres.{text_on}
use Rattle.em_command.proofs.here.output_of.Given as goal

abbrev pub invariant-loop-piece : goal.invariant-loop-piece
invariant-loop-piece l = l.text ++ text_on 1 (drop l.piece-index l.pieces) ≡ text_on 1 l.pieces
