use Rattle.std.proofs.Common.{arith, length}
use Rattle.em_engine.proofs.Steps.{claims, startable}
use Rattle.em_engine.proofs.Tying.{tied_claims}
use Rattle.em_engine.proofs.board.Board.begin.Goals as goal

pub invariant_of-self : goal.invariant_of-self
invariant_of-self g c =
    let s = startable _ c.self.invariant.0 _ c.self.view_is c.args.job c.requires.can in
    rw (c.push_reserved.ensures.items, c.push_reserved.ensures.capacity, c.claim.ensures)
    (claims _ c.args.job c.args.phase _ c.self.invariant.0 s.can c.requires.claimed c.push_reserved.ensures.len, tied_claims g.S.Spec.job_of c.self.inside.phases.items (length c.self.inside.ready.waits) c.self.inside.journal.items c.args.job c.args.phase c.self.invariant.1 c.requires.claimed)

pub push_reserved-requires : goal.push_reserved-requires
push_reserved-requires g c =
    let s = startable _ c.self.invariant.0 _ c.self.view_is c.args.job c.requires.can in omega (arith, s.owed, c.self.invariant.0.room)

pub claim-requires : goal.claim-requires
claim-requires g c = (startable _ c.self.invariant.0 _ c.self.view_is c.args.job c.requires.can).staged

pub index_mut-requires : goal.index_mut-requires
index_mut-requires g c = let s = startable _ c.self.invariant.0 _ c.self.view_is c.args.job c.requires.can in omega (arith, s.within)

pub overflow_sub-self : goal.overflow_sub-self
overflow_sub-self g c = let s = startable _ c.self.invariant.0 _ c.self.view_is c.args.job c.requires.can in omega (arith, s.owed)
