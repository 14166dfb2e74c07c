use Rattle.std.proofs.Common.{◌≡◌, ◌++◌, drop}
use Rattle.em_insight.specs.Telling.{targets}
use Rattle.em_insight.proofs.telling.targets.Given as goal

abbrev pub invariant-loop-job : goal.invariant-loop-job
invariant-loop-job l = l.text ++ targets l.lines (drop l.job-index l.jobs) ≡ targets l.lines l.jobs
