-- What was found of a run of the next job.
use Rattle.std.proofs.Common.{◌≡◌, Bool, List, Option, Some, None, Result, Ok, Err, ap, sym}
use Rattle.std.specs.Prelude.{IfOk, IfSome}
use Rattle.em_tree.specs.declared.question.Entry.{Entry}
use Rattle.em_tree.specs.declared.state.State.{State}
use Rattle.em_tree.specs.Trees.{Changes}
use Rattle.em_run.specs.declared.run.Parts.{Parts}
use Rattle.em_engine.specs.declared.note.Cause.{Cause}
use Rattle.em_engine.specs.declared.note.Verdict.{Verdict}
use Rattle.em_engine.specs.declared.note.Verdict.TheVariants as verdict
use Rattle.em_engine.specs.Verdicts.{IsVerdict}
use Rattle.em_workers.specs.Turns.{cause_of, IsFound}

pub found_is : {S : Type 0} (eq : S → S → Bool) (s : State) (ds : List Changes) (o : Option S) (r : Parts S) (asked : List Entry) (verdict : Verdict) (why : Option Cause) → IfSome o (λ n. IsVerdict eq s n r asked verdict)
    → why ≡ cause_of s ds r asked verdict → IfSome o (λ n. IsFound eq s ds n r asked why)
found_is eq s ds None r asked verdict why is e = tt
found_is eq s ds (Some n) r asked verdict why is e = record { verdict = verdict; is = is; why_is = e }

pub found_each : {S X N : Type 0} (eq : S → S → Bool) (s : State) (ds : List Changes) (o : Option S) (r : Parts S) (asked : List Entry) (verdict : Verdict) (x : Result (X × Option Cause) N)
    → IfSome o (λ n. IsVerdict eq s n r asked verdict) → IfOk x (λ a. a.1 ≡ cause_of s ds r asked verdict) → IfOk x (λ a. IfSome o (λ n. IsFound eq s ds n r asked a.1))
found_each eq s ds o r asked verdict (Ok a) is e = found_is eq s ds o r asked verdict a.1 is e
found_each eq s ds o r asked verdict (Err n) is e = tt

pub found_same : {S : Type 0} (eq : S → S → Bool) (s : State) (ds : List Changes) (o : Option S) (r : Parts S) (asked : List Entry) (v : Verdict) → IfSome o (λ n. IsVerdict eq s n r asked v) → v ≡ verdict.Same → IfSome o (λ n. IsFound eq s ds n r asked None)
found_same eq s ds o r asked v is same = found_is eq s ds o r asked v None is (sym (ap (cause_of s ds r asked) same))
