use Rattle.std.proofs.Common.{[], drop}
use Rattle.em_view.proofs.Doing.{Goes}
use Rattle.em_expand.specs.declared.spoken.Spoken.{Spoken}
use Rattle.em_job.specs.Stops.{is_free}
use Rattle.em_job.specs.Deciding as deciding
use Rattle.em_job.proofs.due.stamps_of.Given as goal

abbrev pub invariant-loop-name : goal.invariant-loop-name
invariant-loop-name g l = (s : Spoken) → Goes is_free g.V.View.tells l.initial.desk l.desk s s (deciding.stamps_of l.cwd l.names []) (deciding.stamps_of l.cwd (drop l.name-index l.names) l.stamps)
