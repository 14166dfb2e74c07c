use Rattle.em_engine.proofs.Steps.{stops}
use Rattle.std.proofs.Common.{refl, length}
use Rattle.em_engine.specs.declared.event.Event.TheVariants as event
use Rattle.em_engine.proofs.Tying.{tied_noted}
use Rattle.em_engine.proofs.board.Board.stop.Goals as goal

pub invariant_of-self : goal.invariant_of-self
invariant_of-self g c = rw (c.push_reserved.ensures.items, c.push_reserved.ensures.capacity) (stops _ _ c.self.invariant.0 c.if-self.false c.push_reserved.ensures.len, tied_noted g.S.Spec.job_of c.self.inside.phases.items (length c.self.inside.ready.waits) c.self.inside.journal.items event.Stop c.self.invariant.1 refl)
