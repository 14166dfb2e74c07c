-- A job as a whole, from what its parts have done.
--     whole          the steps: it is prepared, its lines are read, and it is carried out
--     closing        what it said, and how it ended
--     same_lines     on each state that agrees with what it was answered, the lines for the shell are those that were read
use Rattle.std.proofs.Common.{◌≡◌, ◌∙◌, ℕ, false, List, [], ◌∷◌, ◌++◌, Result, Ok, Err, refl, sym, ap, subst}
use Rattle.std.specs.Prelude.{IfOk, IfErr}
use Rattle.em_tree.specs.declared.outcome.Outcome.{Outcome}
use Rattle.em_tree.specs.declared.question.Entry.{Entry}
use Rattle.em_tree.specs.declared.state.State.{State}
use Rattle.em_tree.specs.Answers.{Agrees}
use Rattle.em_view.specs.Actions.{Workspace}
use Rattle.em_view.specs.Performs.{DeskState, Told}
use Rattle.em_view.specs.Performs as performs
use Rattle.em_view.specs.Steps.{Does, with_state}
use Rattle.em_view.proofs.Doing.{then_s, exit_s}
use Rattle.em_run.proofs.Running.{on_agreeing}
use Rattle.em_expand.specs.declared.spoken.Spoken.{Spoken}
use Rattle.em_task.specs.declared.job.Job.{Job}
use Rattle.em_job.specs.declared.prepare.Prepared.{Prepared}
use Rattle.em_job.specs.declared.ready.Course.{Course}
use Rattle.em_job.specs.declared.ready.ParsedLine.{ParsedLine}
use Rattle.em_job.specs.declared.stop.JobStop.{JobStop}
use Rattle.em_job.specs.declared.stop.JobStop.TheVariants as stop
use Rattle.em_job.specs.Stops.{is_free}
use Rattle.em_job.specs.Preparing.{prepare}
use Rattle.em_job.specs.Carrying.{lines_in, courses, carry_out}
use Rattle.em_job.specs.Effects.{silence, steps, closed, job, begin, result_of, lines_on}

plain_with : {A : Type 0} (r : Result A JobStop) (s : Spoken) → performs.is_free (λ (x : JobStop × Spoken). is_free x.0) (with_state r s) ≡ performs.is_free is_free r
plain_with (Ok a) s = refl
plain_with (Err e) s = refl

-- what is closed with a value didn't run out of memory
closed_plain : (target : List ℕ) (r : Result Outcome JobStop) (s : Spoken) (p : Outcome × List ℕ) → closed target (with_state r s) ≡ Ok p → performs.is_free is_free r ≡ false
closed_plain target (Ok o) s p e = refl
closed_plain target (Err stop.Early) s p e = refl
closed_plain target (Err (stop.Spent q)) s p e = refl
closed_plain target (Err (stop.Refused c q)) s p e = refl
closed_plain target (Err (stop.Halted t q)) s p e = refl
closed_plain target (Err stop.NoMemory) s p e = absurd (cc)

same_result : {S E A : Type 0} (r : Result A E) (s : S) → result_of (with_state r s) ≡ r
same_result (Ok a) s = refl
same_result (Err e) s = refl

agrees_front : (s : State) (es fs : List Entry) → Agrees s (es ++ fs) → Agrees s es
agrees_front s [] fs all = tt
agrees_front s (e ∷ es) fs all = (all.0, agrees_front s es fs all.1)

-- one desk goes on from another
abbrev pub Onward : {V : Type 0} → DeskState V → DeskState V → Type 0
Onward mid new = (es : List Entry) × (new.usage ≡ mid.usage ++ es)

abbrev pub Carried : {V : Type 0} → (V → Told) → DeskState V → DeskState V → Spoken → Spoken → Job → Result Outcome JobStop → Result Course JobStop → Type 0
Carried tells mid new s t j r course = IfOk course (λ c. Does is_free tells mid new s t r (carry_out j c)) × IfErr course (λ e. (r ≡ Err e) × ((new ≡ mid) × (t ≡ s)))

pub whole : {V : Type 0} {tells : V → Told} {old mid new : DeskState V} {s t : Spoken} {r : Result Outcome JobStop} (j : Job) (ready : List ParsedLine) (p : Result Prepared JobStop)
    → Does is_free tells old mid silence s p (prepare j) → Carried tells mid new s t j r (courses ready p) → Does is_free tells old new silence t r (steps j ready)
unfolding steps
whole j ready (Ok p) begun carried = then_s _ begun carried.0
whole {V} {tells} {old} {mid} {new} {s} {t} {r} j ready (Err e) begun carried =
    let out = exit_s _ begun in
    subst (λ (x : Result Outcome JobStop). Does is_free tells old new silence t x (steps j ready)) (sym carried.1.0)
    (subst (λ (d : DeskState V). Does is_free tells old d silence t (Err e) (steps j ready)) (sym carried.1.1.0)
    (subst (λ (u : Spoken). Does is_free tells old mid silence u (Err e) (steps j ready)) (sym carried.1.1.1) out))

no_more : (us : List Entry) → us ≡ us ++ []
no_more [] = refl
no_more (u ∷ us) = ap (λ (vs : List Entry). u ∷ vs) (no_more us)

pub onward : {V : Type 0} (tells : V → Told) (mid new : DeskState V) (s t : Spoken) (r : Result Outcome JobStop) (j : Job) (ready : List ParsedLine) (p : Result Prepared JobStop)
    → Carried tells mid new s t j r (courses ready p) → Onward mid new
onward tells mid new s t r j ready (Ok p) carried = (carried.0.performs.grows.entries, carried.0.performs.grows.grew)
onward {V} tells mid new s t r j ready (Err e) carried = ([], ap (λ (d : DeskState V). d.usage) carried.1.1.0 ∙ no_more mid.usage)

pub plain_before : {V : Type 0} (tells : V → Told) (mid new : DeskState V) (s t : Spoken) (r : Result Outcome JobStop) (j : Job) (ready : List ParsedLine) (p : Result Prepared JobStop)
    → Carried tells mid new s t j r (courses ready p) → performs.is_free is_free r ≡ false → performs.is_free is_free p ≡ false
plain_before tells mid new s t r j ready (Ok p) carried plain = refl
plain_before tells mid new s t r j ready (Err e) carried plain = sym (ap (λ (x : Result Outcome JobStop). performs.is_free is_free x) carried.1.0) ∙ plain

pub closing : {V : Type 0} {tells : V → Told} {old new : DeskState V} {outcome : Outcome} {output : List ℕ} (t : Spoken) (r : Result Outcome JobStop) (j : Job) (ready : List ParsedLine)
    → Does is_free tells old new silence t r (steps j ready) → closed j.plan.target (with_state r t) ≡ Ok (outcome, output)
    → Does is_free tells old new [] output (Ok outcome) (job j ready)
unfolding job
closing {new} {outcome} {output} t r j ready did ends = record {
  performs = record {
    grows = did.performs.grows;
    plain = λ n o all.
        ap (λ (z : Result (Outcome × Spoken) (JobStop × Spoken) × Workspace). let y : Result (Outcome × List ℕ) (JobStop × List ℕ) × Workspace = (closed j.plan.target z.0, z.1) in y)
        (did.performs.plain (plain_with r t ∙ closed_plain j.plan.target r t (outcome, output) ends) o all)
        ∙ ap (λ (z : Result (Outcome × List ℕ) (JobStop × List ℕ)). let y : Result (Outcome × List ℕ) (JobStop × List ℕ) × Workspace = (z, new.work) in y) ends;
  };
}

pub ended_plain : (t : Spoken) (r : Result Outcome JobStop) (p : Outcome × List ℕ) (target : List ℕ) → closed target (with_state r t) ≡ Ok p → performs.is_free is_free r ≡ false
ended_plain t r p target ends = closed_plain target r t p ends

pub same_lines : {V : Type 0} {tells : V → Told} {old mid : DeskState V} {view : V} {s : Spoken} (new : DeskState V) (j : Job) (p : Result Prepared JobStop)
    → old ≡ record { view = view; usage = []; work = begin j } → Does is_free tells old mid silence s p (prepare j) → Onward mid new
    → performs.is_free is_free p ≡ false → (x : State) → Agrees x new.usage → lines_on j x ≡ lines_in p
unfolding lines_on
same_lines {mid} {s} new j p begun did on plain x agrees =
    let front = agrees_front x mid.usage on.0 (subst (λ (es : List Entry). Agrees x es) on.1 agrees) in
    let e = on_agreeing begun did.performs (plain_with p s ∙ plain) x front in
    ap (λ (z : Result (Prepared × Spoken) (JobStop × Spoken) × Workspace). lines_in (result_of z.0)) e ∙ ap lines_in (same_result p s)
