use Rattle.std.proofs.Common.{◌≡◌, ℕ, arith, subst, sym, Some, slice_get, length}
use Rattle.em_engine.specs.declared.event.Phase.TheVariants as phase
use Rattle.em_engine.proofs.Steps.{publishes, running}
use Rattle.em_engine.proofs.Tying.{tied_publishes}
use Rattle.em_engine.proofs.board.Board.publish.Goals as goal

pub invariant_of-self-2 : goal.invariant_of-self-2
invariant_of-self-2 g c =
    let r = running _ c.self.invariant.0 _ c.self.view_is (g.S.Spec.job_of c.args.run.spec) c.requires in
    let Q : ℕ → Type 0 = λ j. slice_get c.self.inside.phases.items j ≡ Some phase.Claimed in
    rw (c.in-Ok-post.ensures.ok, c.push_reserved.ensures.items, c.push_reserved.ensures.capacity, c.end.ensures, c.in-Ok.ensures, c.in-Ok-post_of_run.ensures)
    (publishes _ c.job_of-job.result c.args.run c.args.run.delta c.args.run.outcome _ c.self.invariant.0 (subst Q (sym c.job_of-job.ensures) r.at) c.push_reserved.ensures.len, tied_publishes g.S.Spec.job_of c.self.inside.phases.items (length c.self.inside.ready.waits) c.self.inside.journal.items c.job_of-job.result c.args.run c.self.invariant.1 (sym c.job_of-job.ensures))

pub push_reserved-requires : goal.push_reserved-requires
push_reserved-requires g c =
    let r = running _ c.self.invariant.0 _ c.self.view_is (g.S.Spec.job_of c.args.run.spec) c.requires in omega (arith, r.owed, c.self.invariant.0.room)

pub end-requires : goal.end-requires
end-requires g c = rw c.job_of-job.ensures (running _ c.self.invariant.0 _ c.self.view_is (g.S.Spec.job_of c.args.run.spec) c.requires).staged

pub index_mut-requires : goal.index_mut-requires
index_mut-requires g c =
    let job : c.job_of-job.result ≡ g.S.Spec.job_of c.args.run.spec = c.job_of-job.ensures in
    let r = running _ c.self.invariant.0 _ c.self.view_is (g.S.Spec.job_of c.args.run.spec) c.requires in omega (arith, r.within, job)

pub overflow_sub-self : goal.overflow_sub-self
overflow_sub-self g c =
    let r = running _ c.self.invariant.0 _ c.self.view_is (g.S.Spec.job_of c.args.run.spec) c.requires in omega (arith, r.owed)
