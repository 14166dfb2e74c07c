use Rattle.std.proofs.Common.{◌≡◌, ◌<◌, ◌≤◌, ◌+◌, ◌^◌, length, get_or, take, refl, arith}
use Rattle.em_insight.specs.declared.data.Slot.{Slot}
use Rattle.em_insight.specs.Schedules.{end_of, span}
use Rattle.em_insight.proofs.Filing.{at_of}
use Rattle.em_insight.proofs.Dispatching.{each_or_at, fuel_is, span_take}
use Rattle.em_insight.proofs.listing.last_end.Goals as goal

pub loop-slot-preserved : goal.loop-slot-preserved
loop-slot-preserved c =
    let none : Slot = record { job = 0; agent = 0; start = 0 } in
    let ls = c.args.lines.now in
    let i = c.loop-slot.slot-index in
    let s = get_or c.args.slots.now i none in
    let small = each_or_at (λ (t : Slot). (t.job < length ls) × (end_of ls t ≤ 2 ^ 62)) c.args.slots.now i none c.loop-slot-test.true c.requires in
    let next = span_take ls c.args.slots.now i s (at_of c.args.slots.now i none s c.loop-slot-test.true refl) in
    let e : c.max-last.result ≡ span ls (take (i + 1) c.args.slots.now) = omega (arith, c.max-last.ensures, next, c.loop-slot.invariant, fuel_is ls s.job c.index-lines-slot.result small.0) in
    e
