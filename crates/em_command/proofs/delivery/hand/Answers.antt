use Rattle.std.proofs.Common.{List, sym, ap, ◌∙◌}
use Rattle.em_view.specs.declared.done.Piece.{Piece}
use Rattle.em_command.specs.declared.here.Here.{Here}
use Rattle.em_command.specs.Heres.{written}
use Rattle.em_command.specs.Delivering.{sink_of, through}
use Rattle.em_command.proofs.Pieces.{handed_more, written_more}
use Rattle.em_command.proofs.delivery.hand.Goals as goal

pub loop-piece-preserved : goal.loop-piece-preserved
loop-piece-preserved c =
    let p = c.in-Some.piece in
    let s = c.args.streams.now in
    (rw c.sink_of-sink.ensures at c.in_ok-pass.ensures)
    ∙ ap (λ (h : Here). written (through (sink_of s p) p.text) h) c.loop-piece.invariant
    ∙ written_more _ _ c.args.here.now
    ∙ ap (λ (ps : List Piece). written ps c.args.here.now) (sym (handed_more s c.loop-piece.yielded p))
