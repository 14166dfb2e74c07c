-- What is handed on of pieces, one after another.
use Rattle.std.proofs.Common.{◌≡◌, List, [], ◌∷◌, ◌++◌, sym, ap, ◌∙◌, append_assoc, append-nil}
use Rattle.em_view.specs.declared.done.Piece.{Piece}
use Rattle.em_command.specs.declared.here.Here.{Here}
use Rattle.em_command.specs.declared.streams.Streams.{Streams}
use Rattle.em_command.specs.Heres.{written}
use Rattle.em_command.specs.Delivering.{sink_of, through, handed}

pub handed_more : (s : Streams) (ps : List Piece) (p : Piece) → handed s (ps ++ p ∷ []) ≡ handed s ps ++ through (sink_of s p) p.text
handed_more s [] p = append-nil (through (sink_of s p) p.text)
handed_more s (q ∷ ps) p = ap (λ (xs : List Piece). through (sink_of s q) q.text ++ xs) (handed_more s ps p) ∙ sym (append_assoc (through (sink_of s q) q.text) (handed s ps) (through (sink_of s p) p.text))

pub written_more : (a b : List Piece) (h : Here) → written b (written a h) ≡ written (a ++ b) h
written_more a b h = ap (λ (ps : List Piece). record h { pieces = ps }) (append_assoc h.pieces a b)
