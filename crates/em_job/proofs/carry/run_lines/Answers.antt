use Rattle.em_view.proofs.Doing.{then_s, finish_s, more_s, stop_s, end_s}
use Rattle.em_base.proofs.Lemmas.{left_at, none_at}
use Rattle.em_job.proofs.carry.run_lines.Goals as goal

pub returns-in_err-turned : goal.returns-in_err-turned
returns-in_err-turned g c = let left = left_at c.args.lines.now c.loop-ready.ready-index c.ready-item.result c.loop-ready-test.true c.ready-item.is in
    stop_s _ (rw left at c.loop-ready.invariant) c.from_residual.ensures.1 c.in_err-turned.ensures

pub returns-in-Ended : goal.returns-in-Ended
returns-in-Ended g c = let left = left_at c.args.lines.now c.loop-ready.ready-index c.ready-item.result c.loop-ready-test.true c.ready-item.is in
    end_s (rw left at c.loop-ready.invariant) (then_s _ c.in_ok-turned.ensures (rw c.in-Ended.is finish_s))

pub loop-ready-preserved : goal.loop-ready-preserved
loop-ready-preserved g c = let left = left_at c.args.lines.now c.loop-ready.ready-index c.ready-item.result c.loop-ready-test.true c.ready-item.is in
    rw c.in-Next.is at (more_s _ (rw left at c.loop-ready.invariant) c.in_ok-turned.ensures)

pub returns : goal.returns
returns g c =
    let none = none_at c.args.lines.now c.loop-ready.ready-index c.loop-ready-test.false in
    end_s (rw none at c.loop-ready.invariant) finish_s
