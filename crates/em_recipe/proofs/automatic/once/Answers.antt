use Rattle.std.proofs.Common.{append_assoc}
use Rattle.std.proofs.lemmas.List.{map-append}
use Rattle.em_recipe.proofs.Doubles.{left_all, turn_seen, turn_new}
use Rattle.em_recipe.proofs.automatic.once.Goals as goal
use Rattle.em_recipe.proofs.automatic.once.Goals.{then-is_none+in_ok-from_slice+in_ok-insert+in_ok-push, else-is_none}

pub loop-name-init : goal.loop-name-init
loop-name-init c = rw (c.new-seen.ensures, c.new-first.ensures.items) (left_all _)

pub loop-name-preserved : goal.loop-name-preserved
loop-name-preserved c =
    let names = c.args.names.now in
    let i = c.loop-name.name-index in
    let found = c.get.ensures in
    elim c.if-is_none.branch [
      | then-is_none+in_ok-from_slice+in_ok-insert+in_ok-push w ↦
          rw (w.first-is, w.seen-is, w.in_ok-push.ensures.items, w.in_ok-insert.ensures.ok, w.in_ok-from_slice.ensures, map-append, append_assoc, ← turn_new names i c.loop-name-test.true c.loop-name.seen c.get.result found w.if-is_none.ensures) c.loop-name.invariant
      | else-is_none w ↦ rw (w.first-is, w.seen-is, ← turn_seen names i c.loop-name-test.true c.loop-name.seen c.get.result found w.if-is_none.ensures) c.loop-name.invariant
    ]
