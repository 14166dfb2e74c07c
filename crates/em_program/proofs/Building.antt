-- From the build of the jobs to a project's.
--     ended_so                      the outcomes tell whether a job ended the run
--     runs, breaks, breaks_early    the jobs have run; the run broke off on the way, and before the first job
use Rattle.std.proofs.Common.{◌≡◌, ◌==◌, ℕ, suc, Bool, true, false, ◌||◌, List, [], ◌∷◌, ◌++◌, length, Option, None, Result, Ok, Err, refl, sym, ap, subst, ◌∙◌, append-nil, append_assoc, arith}
use Rattle.std.specs.Prelude.{IsErrAnd, All}
use Rattle.std.specs.List.{list_any}
use Rattle.std.proofs.lemmas.List.{length-append}
use Rattle.std.proofs.lemmas.List.Elements.{All-nil, All-cons, All-head, All-tail}
use Rattle.em_host.specs.Outside.{Outside}
use Rattle.em_host.proofs.Telling.{Tells-weaken}
use Rattle.em_tree.specs.declared.outcome.Outcome.{Outcome}
use Rattle.em_tree.specs.declared.state.State.{State}
use Rattle.em_tree.specs.Trees.{Changes}
use Rattle.em_view.specs.Serial.{after}
use Rattle.em_run.specs.Serial.{Made, Ran, IsSerial, outputs_of, outcomes_of, state_after}
use Rattle.em_run.specs.Serial as run
use Rattle.em_task.specs.declared.job.Flags.{Flags}
use Rattle.em_task.specs.declared.job.Job.{Job}
use Rattle.em_nesting.specs.Nested.{MakesAll}
use Rattle.em_job.specs.Making.{ends_after, flags_of}
use Rattle.em_workers.specs.declared.builder.Built.{Built}
use Rattle.em_workers.specs.declared.no.BuildNo.{BuildNo}
use Rattle.em_workers.specs.declared.no.BuildNo.TheVariants as build_no
use Rattle.em_engine.specs.declared.note.Note.{Note}
use Rattle.em_workers.specs.Builds.{Builds, IsOnce}
use Rattle.em_workers.specs.Notes.{AreNotes, IsNoteOf}
use Rattle.em_workers.proofs.Saying.{said_says}
use Rattle.em_program.specs.declared.build.JobsDone.{JobsDone}
use Rattle.em_program.specs.declared.project.Project.{Project}
use Rattle.em_program.specs.declared.stop.ProgramEnd.{ProgramEnd}
use Rattle.em_program.specs.declared.stop.ProgramEnd.TheVariants.{End, NoMemory}
use Rattle.em_program.specs.declared.verdict.BuildStatus.{BuildStatus}
use Rattle.em_program.specs.Statuses.{has_ended}
use Rattle.em_program.specs.Course.{Follows, say_all, stop_of_build}
use Rattle.em_program.specs.Endings.{IsRan}
use Rattle.em_program.specs.Rounds.{Build, is_early, left_by}
use Rattle.em_program.specs.Projects.{IsReady}
use Rattle.em_program.specs.Serial.{ends}
use Rattle.em_program.proofs.Following.{out, said_all, not_said_all}
use Rattle.em_program.proofs.Steady.{ok_err}

-- ---- the outcomes tell whether a job ended the run

early_by : (f : Flags) (s : State) (js : List Job) (made : List Made) → All (λ (j : Job). j.flags ≡ f) js → Ran MakesAll ends s js made → run.is_early MakesAll ends js made ≡ list_any (ends_after f) (outcomes_of made)
early_by f s [] [] same ran = refl
early_by f s (j ∷ js) [] same ran = refl
early_by f s [] (m ∷ ms) same ran = absurd ran
early_by f s (j ∷ js) (m ∷ ms) same ran =
    ap (λ (g : Flags). ends_after g m.effect.outcome || run.is_early MakesAll ends js ms) (All-head (λ (i : Job). i.flags ≡ f) j js same)
    ∙ ap (λ (b : Bool). ends_after f m.effect.outcome || b) (early_by f (after m.effect s) js ms (All-tail (λ (i : Job). i.flags ≡ f) j js same) ran.1.1)

outcomes_after : (s : State) (made : List Made) → (state_after s made).outcomes ≡ s.outcomes ++ outcomes_of made
outcomes_after s [] = sym (append-nil s.outcomes)
outcomes_after s (m ∷ ms) = outcomes_after (after m.effect s) ms ∙ append_assoc s.outcomes (m.effect.outcome ∷ []) (outcomes_of ms)

-- a serial run is whole
pub whole_by : (early : Bool) (m n : ℕ) → (early ≡ false → m ≡ n) → (early || m == n) ≡ true
whole_by true m n h = refl
whole_by false m n h = let e : m ≡ n = h refl in grind (arith, e)

module _ (p : Project) (ready : IsReady p) where
  pub ended_so : (b : Build) → Ran MakesAll ends p.start p.specs b.made → has_ended p.terms.order (left_by p b).outcomes ≡ is_early p b
  ended_so b ran =
      ap (λ (os : List Outcome). has_ended p.terms.order os) (outcomes_after p.start b.made ∙ ap (λ (os : List Outcome). os ++ outcomes_of b.made) ready.bare)
      ∙ sym (early_by (flags_of p.terms.order) p.start p.specs b.made ready.flags ran)

-- ---- the jobs have run

pub runs : (p : Project) {d : JobsDone} {x y : Option Outside} → d.terms ≡ p.terms → Builds MakesAll ends p.start p.specs p.terms.order.workers (Ok d.built) x y → IsRan p (Ok d) x y
runs p {d} same b = record {
  build = record { made = b.made; notes = d.built.notes };
  has = record { ran = b.ran; noted = b.built.notes; alone = b.built.alone };
  whole = record { serial = b.built.serial; terms = same; state = b.built.state; fuel = b.built.fuel; notes = refl };
  short = λ verdict e. absurd (ok_err e);
  follows = said_all (outputs_of b.made) b.printed;
}

-- ---- the run broke off: each job that was run was run once, as far as anybody was told

abbrev clean_note : ℕ → Note
clean_note job = record { job = job; runs = 1; cause = None }

abbrev clean : ℕ → List Made → List Note
clean job [] = []
clean job (m ∷ ms) = clean_note job ∷ clean (suc job) ms

clean_noted : (s : State) (ds : List Changes) (made : List Made) → AreNotes s ds made (clean (length ds) made)
clean_noted s ds [] = tt
clean_noted s ds (m ∷ ms) =
    let longer : length (ds ++ m.effect.changes ∷ []) ≡ suc (length ds) = length-append ds (m.effect.changes ∷ []) ∙ omega arith in
    let here : IsNoteOf s ds (clean_note (length ds)) = record { job = refl; runs = refl; cause = tt } in
    (here, subst (λ (n : ℕ). AreNotes (after m.effect s) (ds ++ m.effect.changes ∷ []) ms (clean n ms)) longer (clean_noted (after m.effect s) (ds ++ m.effect.changes ∷ []) ms))

clean_once : (job : ℕ) (made : List Made) → All IsOnce (clean job made)
clean_once job [] = All-nil IsOnce
clean_once job (m ∷ ms) = All-cons IsOnce (clean_note job) (clean (suc job) ms) refl (clean_once (suc job) ms)

no_end : {s e : ProgramEnd} → s ≡ e → ((verdict : BuildStatus) → e ≡ End verdict → ⊥) → (verdict : BuildStatus) → (let x : Result JobsDone ProgramEnd = Err s in let y : Result JobsDone ProgramEnd = Err (End verdict) in x ≡ y) → ⊥
no_end is other verdict e = other verdict (sym is ∙ err_is e)
  where
    err_is : {A E : Type 0} {d e : E} → (let x : Result A E = Err d in let y : Result A E = Err e in x ≡ y) → d ≡ e
    err_is g = cc

not_end : (no : BuildNo) (verdict : BuildStatus) → stop_of_build no ≡ End verdict → ⊥
not_end build_no.Host verdict e = absurd cc
not_end build_no.NoMemory verdict e = absurd cc

-- on the way
pub breaks : (p : Project) {no : BuildNo} {r : Result JobsDone ProgramEnd} {x y : Option Outside} → IsErrAnd r (λ s. s ≡ stop_of_build no) → Builds MakesAll ends p.start p.specs p.terms.order.workers (Err no) x y → IsRan p r x y
breaks p {r = Ok d} is b = absurd is
breaks p {no} {r = Err s} {x} {y} is b = record {
  build = record { made = b.made; notes = clean 0 b.made };
  has = record { ran = b.ran; noted = clean_noted p.start [] b.made; alone = λ one. clean_once 0 b.made };
  whole = tt;
  short = no_end is (not_end no);
  follows = subst (λ (t : ProgramEnd). Follows (say_all (outputs_of b.made)) (Err t) x y) (sym is)
      (not_said_all (outputs_of b.made) Built no (Tells-weaken x y (λ u v h. said_says {A = Built} (outputs_of b.made) (Err no) u v h) b.printed));
}

-- before the first job
pub breaks_early : (p : Project) {r : Result JobsDone ProgramEnd} {x : Option Outside} → IsErrAnd r (λ s. s ≡ NoMemory) → IsRan p r x x
breaks_early p {r = Ok d} is = absurd is
breaks_early p {r = Err s} {x} is = record {
  build = record { made = []; notes = [] };
  has = record { ran = tt; noted = tt; alone = λ one. All-nil IsOnce };
  whole = tt;
  short = no_end is (λ verdict e. absurd cc);
  follows = subst (λ (t : ProgramEnd). Follows (say_all []) (Err t) x x) (sym is) out;
}
