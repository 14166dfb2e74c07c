use Rattle.em_view.proofs.Doing.{finish_s, more_s, stop_s, end_s}
use Rattle.em_base.proofs.Lemmas.{left_at, none_at}
use Rattle.em_job.proofs.awaiting.await_order.Goals as goal

pub returns-in_err-ending : goal.returns-in_err-ending
returns-in_err-ending g c = λ s. let left = left_at c.args.pres.now c.loop-pre.pre-index c.pre-item.result c.loop-pre-test.true c.pre-item.is in
    stop_s _ (rw left at c.loop-pre.invariant s) c.from_residual.ensures.1 (rw c.items.ensures at c.in_err-ending.ensures s)

pub loop-pre-preserved : goal.loop-pre-preserved
loop-pre-preserved g c = λ s. let left = left_at c.args.pres.now c.loop-pre.pre-index c.pre-item.result c.loop-pre-test.true c.pre-item.is in
    rw (c.both-fine.ensures, c.later-left.ensures, c.len.ensures) (more_s _ (rw left at c.loop-pre.invariant s) (rw c.items.ensures at c.in_ok-ending.ensures s))

pub returns : goal.returns
returns g c = λ s.
    let none = none_at c.args.pres.now c.loop-pre.pre-index c.loop-pre-test.false in
    end_s (rw none at c.loop-pre.invariant s) finish_s
