use Rattle.std.proofs.Common.{◌+◌, ◌∙◌, ap, subst, arith, length}
use Rattle.std.specs.FinMap.{insert}
use Rattle.em_chain.specs.declared.post.Post.{Post}
use Rattle.em_chain.specs.Posts.{Floored}
use Rattle.em_chain.specs.Floors.{IsRaised}
use Rattle.em_engine.proofs.Steps.{settles, settling, left_owed, read_at}
use Rattle.em_engine.proofs.Tying.{tied_settles}
use Rattle.em_engine.proofs.board.Board.settle.Goals as goal

pub invariant_of-self-2 : goal.invariant_of-self-2
invariant_of-self-2 g c =
    let s = settling _ c.self.invariant.0 _ c.self.view_is c.args.job c.requires.next c.requires.fronted in
    let at = read_at c.self.inside.phases.items c.args.job c.index.result.now s.within c.index.ensures in
    let ps = c.self.inside.versions.posts in
    let put : Post → Floored = λ x. record c.self.inside.versions { posts = insert ps c.args.job x } in
    let raised = subst (λ (v : Floored). IsRaised v (c.args.job + 1) c.raise.new.self) (c.in_ok-post.ensures.ok ∙ ap put c.in_ok-posted.ensures) c.raise.ensures in
    rw (c.push_reserved.ensures.items, c.push_reserved.ensures.capacity, c.settle.ensures)
    (settles _ c.args.job c.index.result.now c.args.d c.args.o c.raise.new.self c.left_of-left.result _ c.self.invariant.0 raised s.next s.can at c.left_of-left.ensures c.push_reserved.ensures.len, tied_settles g.S.Spec.job_of c.self.inside.phases.items (length c.self.inside.ready.waits) c.self.inside.journal.items c.args.job c.args.d c.args.o c.self.invariant.1)

pub index-requires : goal.index-requires
index-requires g c =
    let s = settling _ c.self.invariant.0 _ c.self.view_is c.args.job c.requires.next c.requires.fronted in omega (arith, s.within)

pub index_mut-requires : goal.index_mut-requires
index_mut-requires g c =
    let s = settling _ c.self.invariant.0 _ c.self.view_is c.args.job c.requires.next c.requires.fronted in omega (arith, s.within)

pub settle-requires : goal.settle-requires
settle-requires g c = (settling _ c.self.invariant.0 _ c.self.view_is c.args.job c.requires.next c.requires.fronted).staged

pub push_reserved-requires : goal.push_reserved-requires
push_reserved-requires g c =
    let s = settling _ c.self.invariant.0 _ c.self.view_is c.args.job c.requires.next c.requires.fronted in omega (arith, s.owed, c.self.invariant.0.room)

pub overflow_sub-self : goal.overflow_sub-self
overflow_sub-self g c =
    let s = settling _ c.self.invariant.0 _ c.self.view_is c.args.job c.requires.next c.requires.fronted in
    let o = left_owed _ c.self.invariant.0 c.args.job c.index.result.now c.left_of-left.result c.index.ensures s.within c.left_of-left.ensures in
    omega (arith, o)

pub overflow_add-self : goal.overflow_add-self
overflow_add-self g c =
    let s = settling _ c.self.invariant.0 _ c.self.view_is c.args.job c.requires.next c.requires.fronted in omega (arith, s.small)

pub overflow_add-job : goal.overflow_add-job
overflow_add-job g c =
    let s = settling _ c.self.invariant.0 _ c.self.view_is c.args.job c.requires.next c.requires.fronted in
    omega (arith, s.within, c.self.invariant.0.phases_len, c.self.invariant.0.small)
