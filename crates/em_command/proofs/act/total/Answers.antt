use Rattle.std.proofs.Common.{◌≡◌, ◌-◌, ◌^◌, min, arith}
use Rattle.em_base.proofs.Lemmas.{left_at, none_at}
use Rattle.em_command.specs.Acting as acting
use Rattle.em_command.proofs.act.total.Goals as goal

pub loop-piece-preserved : goal.loop-piece-preserved
loop-piece-preserved c =
    let left = left_at c.args.pieces.now c.loop-piece.piece-index c.piece-item.result c.loop-piece-test.true c.piece-item.is in
    let inv = rw left at c.loop-piece.invariant.0 in
    let sum = rw c.bytes.ensures at c.saturating_add-size.ensures in
    (omega (arith, inv, sum), omega (arith, sum))

pub returns : goal.returns
returns c =
    let none = none_at c.args.pieces.now c.loop-piece.piece-index c.loop-piece-test.false in
    let inv = rw none at c.loop-piece.invariant.0 in
    let is : c.loop-piece.size ≡ min (acting.total c.args.pieces.now) (2 ^ 64 - 1) = omega (arith, inv, c.loop-piece.invariant.1) in is
