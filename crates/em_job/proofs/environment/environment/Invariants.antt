use Rattle.std.proofs.Common.{[], drop}
use Rattle.em_view.proofs.Doing.{Goes}
use Rattle.em_job.specs.Stops.{is_free}
use Rattle.em_job.specs.Carrying.{environment_from}
use Rattle.em_job.proofs.Entries.{over_places}
use Rattle.em_job.proofs.environment.environment.Given as goal

abbrev pub invariant-loop-i : goal.invariant-loop-i
invariant-loop-i g l = Goes is_free g.V.View.tells l.initial.desk l.desk l.initial.spoken l.spoken (environment_from l.job l.autos l.place l.job.vars []) (over_places l.job l.autos l.place (drop l.i-index l.places) l.env)
