use Rattle.std.proofs.Common.{[], drop}
use Rattle.em_view.proofs.Doing.{Goes}
use Rattle.em_job.specs.Stops.{is_free}
use Rattle.em_job.specs.Preparing as preparing
use Rattle.em_job.proofs.prepare.expand_lines.Given as goal

abbrev pub invariant-loop-line : goal.invariant-loop-line
invariant-loop-line g l = Goes is_free g.V.View.tells l.initial.desk l.desk l.initial.spoken l.spoken (preparing.expand_lines l.job l.autos l.recipe []) (preparing.expand_lines l.job l.autos (drop l.line-index l.recipe) l.lines)
