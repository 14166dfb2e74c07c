use Rattle.std.proofs.Common.{◌≡◌, subst, sym}
use Rattle.std.specs.Prelude.{Some, slice_get}
use Rattle.em_engine.specs.declared.ready.JobStage.TheVariants as stage
use Rattle.em_engine.specs.Stages.{Waiting}
use Rattle.em_engine.proofs.Readying.{settled}
use Rattle.em_engine.proofs.ready.WaitingJobs.close.Goals as goal

pub invariant_of-self : goal.invariant_of-self
invariant_of-self c =
    let P : Waiting → Type 0 = λ w. slice_get w.stages c.args.job ≡ Some stage.Ended in
    settled _ c.args.job c.self.invariant (subst P (sym c.self.view_is) c.requires)
