use Rattle.std.proofs.Common.{ap}
use Rattle.em_steps.specs.Laps.{plot_of, fresh_plot}
use Rattle.em_task.proofs.Same.{same_job}
use Rattle.em_task.specs.declared.job.Job.{Job}
use Rattle.em_steps.proofs.steps.JobSteps.begin.Goals as goal

pub returns : goal.returns
unfolding plot_of
returns c = ap (λ (j : Job). fresh_plot j c.args.depth c.args.known) (same_job _ _ c.in_ok-copy.ensures)
