use Rattle.std.proofs.Common.{[], drop}
use Rattle.em_view.proofs.Doing.{Goes}
use Rattle.em_expand.specs.declared.spoken.Spoken.{Spoken}
use Rattle.em_job.specs.Stops.{is_free}
use Rattle.em_job.specs.Deciding as deciding
use Rattle.em_job.proofs.due.newer_among.Given as goal

abbrev pub invariant-loop-awaited : goal.invariant-loop-awaited
invariant-loop-awaited g l = (s : Spoken) → Goes is_free g.V.View.tells l.initial.desk l.desk s s (deciding.newer_among l.job l.owns l.normal []) (deciding.newer_among l.job l.owns (drop l.awaited-index l.normal) l.newer)
