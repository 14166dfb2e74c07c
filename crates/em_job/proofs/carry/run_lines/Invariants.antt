use Rattle.std.proofs.Common.{None, drop}
use Rattle.em_view.proofs.Doing.{Goes}
use Rattle.em_job.specs.Stops.{is_free}
use Rattle.em_job.specs.Carrying.{lines_from}
use Rattle.em_job.proofs.carry.run_lines.Given as goal

abbrev pub invariant-loop-ready : goal.invariant-loop-ready
invariant-loop-ready g l = Goes is_free g.V.View.tells l.initial.desk l.desk l.initial.spoken l.spoken (lines_from l.job l.opened None l.lines) (lines_from l.job l.opened l.env (drop l.ready-index l.lines))
