use Rattle.std.proofs.Common.{◌≡◌, subst, sym}
use Rattle.std.specs.Prelude.{Some, slice_get}
use Rattle.em_engine.specs.declared.ready.JobStage.TheVariants as stage
use Rattle.em_engine.specs.Stages.{Waiting}
use Rattle.em_engine.proofs.Readying.{some_are_free, claimed}
use Rattle.em_engine.proofs.ready.WaitingJobs.claim.Goals as goal

pub overflow_sub-self : goal.overflow_sub-self
overflow_sub-self c =
    let P : Waiting → Type 0 = λ w. slice_get w.stages c.args.job ≡ Some stage.Free in
    some_are_free _ c.args.job c.self.invariant (subst P (sym c.self.view_is) c.requires)

pub invariant_of-self : goal.invariant_of-self
invariant_of-self c =
    let P : Waiting → Type 0 = λ w. slice_get w.stages c.args.job ≡ Some stage.Free in
    rw (c.put.ensures) (claimed _ c.args.job c.self.invariant (subst P (sym c.self.view_is) c.requires))
