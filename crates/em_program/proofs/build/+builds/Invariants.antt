use Rattle.em_program.specs.Rounds.{rank_of}
use Rattle.em_program.proofs.build.+builds.Given as goal

abbrev pub decreases-run_from : goal.decreases-run_from
decreases-run_from g l = rank_of l.step.remaking
