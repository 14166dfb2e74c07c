use Rattle.std.proofs.Common.{◌≡◌, [], None, drop}
use Rattle.em_view.proofs.Doing.{Goes}
use Rattle.em_reading.specs.Faults.{is_free}
use Rattle.em_reader.specs.Hearing.{heard_pieces}
use Rattle.em_reader.proofs.hear.heard_pieces.Given as goal

abbrev pub invariant-loop-piece : goal.invariant-loop-piece
invariant-loop-piece g l = (l.all.refused ≡ None)
    × Goes is_free g.V.View.tells l.initial.desk l.desk l.initial.reading l.reading (heard_pieces l.place [] l.pieces) (heard_pieces l.place l.all.text (drop l.piece-index l.pieces))
