use Rattle.std.proofs.Common.{◌∙◌, refl, inr}
use Rattle.em_plan.proofs.Walks.{room_is}
use Rattle.em_plan.proofs.walk.enter.Goals as goal

pub returns-then-not-has_room-clause-err : goal.returns-then-not-has_room-clause-err
returns-then-not-has_room-clause-err c = inr (refl, room_is c.args.walk.now.walked c.args.walk.now.begun _ _ _ c.has_room.ensures c.len.ensures c.len-2.ensures ∙ c.if-not-has_room.true)

pub returns-clause-room : goal.returns-clause-room
returns-clause-room c = room_is c.args.walk.now.walked c.args.walk.now.begun _ _ _ c.has_room.ensures c.len.ensures c.len-2.ensures ∙ c.if-not-has_room.false
