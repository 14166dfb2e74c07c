use Rattle.std.proofs.Common.{◌<◌, length, append_assoc, arith}
use Rattle.em_task.proofs.Places.{next_place}
use Rattle.em_task.proofs.handed.handed_places.Goals as goal
use Rattle.em_task.proofs.handed.handed_places.Goals.{then-is_handed_at+in_ok-push, else-is_handed_at}

pub loop-i-preserved : goal.loop-i-preserved
loop-i-preserved c =
    let lt : c.loop-i.i < length c.args.vars.now = omega arith in
    let next = next_place c.args.vars.now c.loop-i.i lt c.is_handed_at.result c.is_handed_at.ensures in
    elim c.if-is_handed_at.branch [
      | then-is_handed_at+in_ok-push w ↦ rw (w.places-is, w.in_ok-push.ensures.items, append_assoc) (rw (next, w.if-is_handed_at.true) at c.loop-i.invariant)
      | else-is_handed_at w ↦ rw w.places-is (rw (next, w.if-is_handed_at.false) at c.loop-i.invariant)
    ]
