use Rattle.em_insight.proofs.Dispatching.{least_more}
use Rattle.em_insight.proofs.dispatch.first_free.Goals as goal

pub loop-moment-preserved : goal.loop-moment-preserved
loop-moment-preserved c =
    let h = least_more c.args.free.now c.loop-moment.moment-index c.loop-moment.first c.min-first.result c.loop-moment-test.true c.loop-moment.invariant.some c.loop-moment.invariant.least c.min-first.ensures in
    record { some = h.some; least = h.least }
