use Rattle.std.proofs.Common.{◌≡◌, ◌+◌, ◌≤◌, arith}
use Rattle.em_fields.proofs.Counting.{one_more}
use Rattle.em_fields.proofs.part.size.Goals as goal

pub loop-part-preserved : goal.loop-part-preserved
loop-part-preserved c =
    let inv = c.loop-part.invariant in
    let w = c.weight-size.ensures in
    let below : c.loop-part.size + c.weight-size.result ≤ c.loop-part.part-index + 1 = omega (arith, inv.1, w.bound) in
    (one_more c.args.parts.now c.loop-part.part-index c.loop-part.size c.weight-size.result _ c.loop-part-test.true w.weight inv.0, below)
