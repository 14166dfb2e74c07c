use Rattle.em_script.specs.Strands.{Spent}
use Rattle.em_steps.specs.Laps.{plot_of, back_of}
use Rattle.em_steps.proofs.Pausing.{heard_plot}
use Rattle.em_steps.proofs.steps.JobSteps.spent.Goals as goal

pub returns : goal.returns
unfolding plot_of back_of
returns c = let s = c.args.self.now in rw (c.out_of_fuel.ensures, c.replace.ensures.value) (heard_plot s.spec s.depth s.known s.stage Spent)
