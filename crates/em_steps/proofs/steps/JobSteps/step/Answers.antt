use Rattle.std.proofs.Common.{refl}
use Rattle.em_script.proofs.Strands.{from_t}
use Rattle.em_job.specs.Effects.{saying}
use Rattle.em_steps.specs.Laps.{plot_of, back_of, going_by}
use Rattle.em_steps.proofs.steps.JobSteps.step.Goals as goal

pub returns-in-Ended-clause-turned : goal.returns-in-Ended-clause-turned
unfolding plot_of back_of
returns-in-Ended-clause-turned g c = let s = c.args.self.now in rw c.replace-stage.ensures.after (from_t saying (going_by s.spec s.depth s.known s.stage)
    (rw (c.in-Ended.is, c.replace-stage.ensures.value, c.replace.ensures.value, c.new-2.ensures) at c.in_ok-outcome.ensures.went))

pub returns-clause-turned : goal.returns-clause-turned
unfolding plot_of back_of
returns-clause-turned g c = let s = c.args.self.now in from_t saying (going_by s.spec s.depth s.known s.stage)
    (rw (c.in-Paused.is, c.replace-stage.ensures.value, c.replace.ensures.value, c.new-2.ensures) at c.in_ok-outcome.ensures.went)

pub returns-in_err-outcome-clause-left : goal.returns-in_err-outcome-clause-left
unfolding plot_of
returns-in_err-outcome-clause-left g c = rw c.replace-stage.ensures.after refl

pub returns-in-Ended-clause-left : goal.returns-in-Ended-clause-left
unfolding plot_of
returns-in-Ended-clause-left g c = rw c.replace-stage.ensures.after refl

pub returns-clause-left : goal.returns-clause-left
unfolding plot_of
returns-clause-left g c = refl
