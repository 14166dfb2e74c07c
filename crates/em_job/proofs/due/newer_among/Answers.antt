use Rattle.std.proofs.Common.{refl}
use Rattle.em_view.proofs.Doing.{then_s, finish_s, out_s, more_s, stop_s, end_s}
use Rattle.em_base.proofs.Lemmas.{left_at, none_at}
use Rattle.em_job.proofs.due.newer_among.Goals as goal

pub returns-in_err-stamp : goal.returns-in_err-stamp
returns-in_err-stamp g c = λ s. let left = left_at c.args.normal.now c.loop-awaited.awaited-index c.awaited-item.result c.loop-awaited-test.true c.awaited-item.is in
    stop_s _ (rw left at c.loop-awaited.invariant s) c.from_residual.ensures.1 (rw c.bytes.ensures at c.in_err-stamp.ensures s)

pub returns-in_err-put_newer : goal.returns-in_err-put_newer
returns-in_err-put_newer g c = λ s. let left = left_at c.args.normal.now c.loop-awaited.awaited-index c.awaited-item.result c.loop-awaited-test.true c.awaited-item.is in
    end_s (rw left at c.loop-awaited.invariant s) (then_s _ (rw c.bytes.ensures at c.in_ok-stamp.ensures s) (out_s _ refl c.from_residual-in_err-put_newer.ensures.1))

pub loop-awaited-preserved : goal.loop-awaited-preserved
loop-awaited-preserved g c = λ s. let left = left_at c.args.normal.now c.loop-awaited.awaited-index c.awaited-item.result c.loop-awaited-test.true c.awaited-item.is in
    rw (c.in_ok-put_newer.ensures, c.is_newer.ensures) (more_s _ (rw left at c.loop-awaited.invariant s) (rw c.bytes.ensures at c.in_ok-stamp.ensures s))

pub returns : goal.returns
returns g c = λ s.
    let none = none_at c.args.normal.now c.loop-awaited.awaited-index c.loop-awaited-test.false in
    end_s (rw none at c.loop-awaited.invariant s) finish_s
