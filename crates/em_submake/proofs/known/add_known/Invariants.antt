use Rattle.std.proofs.Common.{◌≡◌, ◌++◌, map, take}
use Rattle.em_submake.specs.Submakes.{outcome_in}
use Rattle.em_submake.proofs.known.add_known.Given as goal

abbrev pub invariant-loop-job : goal.invariant-loop-job
invariant-loop-job l = l.known.items ≡ l.initial.known.items ++ map (outcome_in l.ended) (take l.job-index l.jobs)
