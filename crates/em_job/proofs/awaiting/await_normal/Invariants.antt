use Rattle.std.proofs.Common.{[], drop, true, option_map}
use Rattle.em_view.proofs.Doing.{Goes}
use Rattle.em_expand.specs.declared.spoken.Spoken.{Spoken}
use Rattle.em_job.specs.Stops.{is_free}
use Rattle.em_job.specs.Deciding as deciding
use Rattle.em_job.proofs.awaiting.await_normal.Given as goal

abbrev pub invariant-loop-pre : goal.invariant-loop-pre
invariant-loop-pre g l = (s : Spoken) → Goes is_free g.V.View.tells l.initial.desk l.desk s s (deciding.await_normal (option_map (λ o. o.now) l.known) l.dry l.pres [] true) (deciding.await_normal (option_map (λ o. o.now) l.left) l.dry (drop l.pre-index l.pres) l.so_far l.fine)
