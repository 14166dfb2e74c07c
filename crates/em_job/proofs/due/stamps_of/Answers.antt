use Rattle.std.proofs.Common.{refl}
use Rattle.em_view.proofs.Doing.{then_s, finish_s, out_s, more_s, stop_s, end_s}
use Rattle.em_base.proofs.Lemmas.{left_at, none_at}
use Rattle.em_job.proofs.due.stamps_of.Goals as goal

pub returns-in_err-stamp : goal.returns-in_err-stamp
returns-in_err-stamp g c = λ s. let left = left_at c.args.names.now c.loop-name.name-index c.name-item.result c.loop-name-test.true c.name-item.is in
    stop_s _ (rw left at c.loop-name.invariant s) c.from_residual.ensures.1 (rw c.bytes.ensures at c.in_err-stamp.ensures s)

pub returns-in_err-push : goal.returns-in_err-push
returns-in_err-push g c = λ s. let left = left_at c.args.names.now c.loop-name.name-index c.name-item.result c.loop-name-test.true c.name-item.is in
    end_s (rw left at c.loop-name.invariant s) (then_s _ (rw c.bytes.ensures at c.in_ok-stamp.ensures s) (out_s _ refl c.from_residual-in_err-push.ensures.1))

pub loop-name-preserved : goal.loop-name-preserved
loop-name-preserved g c = λ s. let left = left_at c.args.names.now c.loop-name.name-index c.name-item.result c.loop-name-test.true c.name-item.is in
    rw c.in_ok-push.ensures.ok (more_s _ (rw left at c.loop-name.invariant s) (rw c.bytes.ensures at c.in_ok-stamp.ensures s))

pub returns : goal.returns
returns g c = λ s.
    let none = none_at c.args.names.now c.loop-name.name-index c.loop-name-test.false in
    end_s (rw none at c.loop-name.invariant s) finish_s
