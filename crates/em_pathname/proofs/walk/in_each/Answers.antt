use Rattle.em_view.proofs.Performing.{more, stop, end, finish}
use Rattle.em_base.proofs.Lemmas.{left_at, none_at}
use Rattle.em_pathname.proofs.walk.in_each.Goals as goal

pub returns-in_err-more-clause-performs : goal.returns-in_err-more-clause-performs
returns-in_err-more-clause-performs g c =
    let left = left_at c.args.dirs.now c.loop-dir.dir-index c.dir-item.result c.loop-dir-test.true c.dir-item.is in
    let inv = rw left at c.loop-dir.invariant in
    stop _ inv c.from_residual.ensures.1 c.in_err-more.ensures.performs

pub loop-dir-preserved : goal.loop-dir-preserved
loop-dir-preserved g c =
    let left = left_at c.args.dirs.now c.loop-dir.dir-index c.dir-item.result c.loop-dir-test.true c.dir-item.is in
    let inv = rw left at c.loop-dir.invariant in
    rw c.in_ok-all.ensures (more _ inv c.in_ok-more.ensures.performs)

pub returns-clause-performs : goal.returns-clause-performs
returns-clause-performs g c =
    let none = none_at c.args.dirs.now c.loop-dir.dir-index c.loop-dir-test.false in
    end (rw none at c.loop-dir.invariant) finish
