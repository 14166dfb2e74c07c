use Rattle.std.proofs.Common.{arith, length}
use Rattle.em_engine.proofs.Steps.{gives_up, running}
use Rattle.em_engine.proofs.Tying.{tied_gives_up}
use Rattle.em_engine.proofs.board.Board.give_up.Goals as goal

pub invariant_of-self : goal.invariant_of-self
invariant_of-self g c =
    let r = running _ c.self.invariant.0 _ c.self.view_is c.args.job c.requires in
    rw (c.push_reserved.ensures.items, c.push_reserved.ensures.capacity, c.end.ensures)
    (gives_up _ c.args.job _ c.self.invariant.0 r.at c.push_reserved.ensures.len, tied_gives_up g.S.Spec.job_of c.self.inside.phases.items (length c.self.inside.ready.waits) c.self.inside.journal.items c.args.job c.self.invariant.1)

pub push_reserved-requires : goal.push_reserved-requires
push_reserved-requires g c = let r = running _ c.self.invariant.0 _ c.self.view_is c.args.job c.requires in omega (arith, r.owed, c.self.invariant.0.room)

pub end-requires : goal.end-requires
end-requires g c = (running _ c.self.invariant.0 _ c.self.view_is c.args.job c.requires).staged

pub index_mut-requires : goal.index_mut-requires
index_mut-requires g c = let r = running _ c.self.invariant.0 _ c.self.view_is c.args.job c.requires in omega (arith, r.within)

pub overflow_sub-self : goal.overflow_sub-self
overflow_sub-self g c = let r = running _ c.self.invariant.0 _ c.self.view_is c.args.job c.requires in omega (arith, r.owed)
