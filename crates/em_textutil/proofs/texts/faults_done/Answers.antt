use Rattle.em_base.proofs.Lemmas.{left_at, none_at}
use Rattle.em_textutil.proofs.texts.faults_done.Goals as goal

pub loop-source-preserved : goal.loop-source-preserved
loop-source-preserved c =
    let left = left_at c.args.sources.now c.loop-source.source-index c.source-item.result c.loop-source-test.true c.source-item.is in
    let inv = rw left at c.loop-source.invariant in
    rw c.in_ok-write_fault.ensures inv

pub returns : goal.returns
returns c =
    let none = none_at c.args.sources.now c.loop-source.source-index c.loop-source-test.false in
    rw none at c.loop-source.invariant
