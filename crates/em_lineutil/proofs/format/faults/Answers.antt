use Rattle.em_lineutil.proofs.Parting.{strange_once}
use Rattle.em_lineutil.proofs.format.faults.Goals as goal

pub loop-times-preserved : goal.loop-times-preserved
loop-times-preserved c = strange_once _ _ _ c.loop-times.times c.args.parts.now c.loop-times.rest.now _ c.loop-times-test.true c.in_ok-rest.ensures.0 c.in_ok-rest.ensures.1 c.loop-times.invariant
