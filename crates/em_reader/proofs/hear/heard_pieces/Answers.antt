use Rattle.std.proofs.Common.{◌+◌, ◌∙◌, drop, sym}
use Rattle.em_base.proofs.Lemmas.{left_at, none_at}
use Rattle.em_view.proofs.Doing.{more_s, stop_s, end_s, then_s}
use Rattle.em_reader.specs.Hearing.{heard_pieces}
use Rattle.em_reader.proofs.Pieces.{unrefused, cut, goes, whole}
use Rattle.em_reader.proofs.hear.heard_pieces.Goals as goal

pub returns-in_err-more : goal.returns-in_err-more
returns-in_err-more g c =
    let left = left_at c.args.pieces.now c.loop-piece.piece-index c.piece-item.result c.loop-piece-test.true c.piece-item.is in
    stop_s _ (rw left at c.loop-piece.invariant.1) c.from_residual.ensures.1 (rw c.bytes.ensures at c.in_err-more.ensures)

pub returns-then-is_some : goal.returns-then-is_some
returns-then-is_some g c =
    let left = left_at c.args.pieces.now c.loop-piece.piece-index c.piece-item.result c.loop-piece-test.true c.piece-item.is in
    end_s (rw left at c.loop-piece.invariant.1) (then_s _ (rw c.bytes.ensures at c.in_ok-more.ensures) (cut (λ text. heard_pieces c.args.place.now text (drop (c.loop-piece.piece-index + 1) c.args.pieces.now)) c.loop-piece.all.text c.in_ok-more.more c.in_ok-all.all c.in_ok-all.ensures (sym c.is_some.ensures ∙ c.if-is_some.true)))

pub loop-piece-preserved : goal.loop-piece-preserved
loop-piece-preserved g c =
    let left = left_at c.args.pieces.now c.loop-piece.piece-index c.piece-item.result c.loop-piece-test.true c.piece-item.is in
    let no = unrefused c.in_ok-all.all.refused (sym c.is_some.ensures ∙ c.if-is_some.false) in
    (no, goes c.args.place.now (drop (c.loop-piece.piece-index + 1) c.args.pieces.now) c.loop-piece.all.text c.in_ok-more.more c.in_ok-all.all c.in_ok-all.ensures no (more_s _ (rw left at c.loop-piece.invariant.1) (rw c.bytes.ensures at c.in_ok-more.ensures)))

pub returns : goal.returns
returns g c =
    let none = none_at c.args.pieces.now c.loop-piece.piece-index c.loop-piece-test.false in
    end_s (rw none at c.loop-piece.invariant.1) (whole c.loop-piece.all c.loop-piece.invariant.0)
