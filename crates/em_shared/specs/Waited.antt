-- What the calls of a shared board answer.
--     IsTold c, IsLent t     a call that waits doesn't answer that it is too early
--     run_in h               the run that is handed back
use Rattle.em_run.specs.declared.run.Parts.{Parts}
use Rattle.em_engine.specs.declared.ready.Claim.{Claim}
use Rattle.em_engine.specs.declared.ready.Claim.TheVariants as claim
use Rattle.em_engine.specs.declared.event.Taken.{Taken}
use Rattle.em_engine.specs.declared.event.Taken.TheVariants as taken
use Rattle.em_shared.specs.declared.no.Held.{Held}
use Rattle.em_shared.specs.declared.no.Held.TheVariants as held

abbrev pub IsTold : Claim → Type 0
IsTold (claim.Job j) = Unit {0}
IsTold claim.Done = Unit {0}
IsTold claim.NotYet = ⊥

abbrev pub IsLent : {S : _} → Taken S → Type 0
IsLent (taken.Run r asked) = Unit {0}
IsLent taken.GivenUp = Unit {0}
IsLent taken.NotYet = ⊥

abbrev pub run_in : {S : _} → Held S → Parts S
run_in (held.Memory r) = r
run_in (held.Phase r) = r
