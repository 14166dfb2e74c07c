-- The builds of a site, and the same beside the host.
--     same_end            what is refused before the first build doesn't hang on the files that are there when it is worked out
--     worked, not_worked         the builds that followed a first step, and no step
--     counted_ok ..       the same, beside the host
use Rattle.std.proofs.Common.{◌≡◌, ◌≢◌, ℕ, Bool, true, false, cond, List, [], ◌++◌, length, Option, Some, None, Result, Ok, Err, refl, sym, ap, subst, ◌∙◌, inl}
use Rattle.std.specs.Prelude.{IfOk, IsErr, IsErrAnd}
use Rattle.std.proofs.lemmas.Bool.{false≢true}
use Rattle.std.specs.FinMap.{empty}
use Rattle.em_host.specs.declared.call.Call.{Call}
use Rattle.em_host.specs.Memory.{Memory, nothing}
use Rattle.em_host.specs.Outside.{Files, Outside, Tells}
use Rattle.em_host.specs.Calls.{files_after, printed_by}
use Rattle.em_host.proofs.Telling.{Tells-then, Tells-weaken, Tells-same, front_none}
use Rattle.em_engine.specs.declared.note.Note.{Note}
use Rattle.em_program.specs.declared.build.Finished.{Finished}
use Rattle.em_program.specs.declared.rounds.BuildStep.{BuildStep}
use Rattle.em_program.specs.declared.site.Earlier.{Earlier}
use Rattle.em_program.specs.declared.site.Site.{Site}
use Rattle.em_program.specs.declared.verdict.BuildStatus.{BuildStatus}
use Rattle.em_program.specs.declared.stop.ProgramEnd.{ProgramEnd}
use Rattle.em_program.specs.declared.stop.ProgramEnd.TheVariants.{End, Failed, NoMemory}
use Rattle.em_program.specs.Statuses.{code_of}
use Rattle.em_program.specs.Course.{Trace, Course, go_on, ◌>>=◌, done, quit, say, stop, Ends, Meets, Follows}
use Rattle.em_program.specs.Messages.{summary}
use Rattle.em_program.specs.Headline.{first_in}
use Rattle.em_program.specs.Projects.{site}
use Rattle.em_program.specs.Rounds.{Build, first, IsNext}
use Rattle.em_program.specs.Endings.{run_from, verdict_in, Tally, tally_in, IsOver, AreRun, AllAt, AreAll, notes_of, IsRun, working, AreSo, IsWork, counted_as, counted, IsCount}
use Rattle.em_program.proofs.Following.{then_does, leave_does, then, finish as stays}
use Rattle.em_program.proofs.Rounding.{err_to}
use Rattle.em_program.proofs.Steady.{ok_same, ok_err, err_same, steady_first}

err_is : {A E : Type 0} {d e : E} → (let x : Result A E = Err d in let y : Result A E = Err e in x ≡ y) → d ≡ e
err_is g = cc

pub same_end : (words : List (List ℕ)) (files : Files) (s : Site) → (site words files).end ≡ Ok s → (g : Files) → first_in words files ≡ (first s g).end
unfolding ◌>>=◌
same_end words files s e g =
    ap (λ (x : Result Site BuildStatus). (go_on (site words files).calls x first files).end) e ∙ steady_first s (files_after (site words files).calls files) g

pub if_ok : {A E : Type 0} {P Q : A → Type 0} (r : Result A E) → ((a : A) → P a → Q a) → IfOk r P → IfOk r Q
if_ok (Ok a) f h = f a h
if_ok (Err e) f h = tt

-- ---- the builds behind the first step

module _ (s : Site) (st : BuildStep) (y : Files) (at : (first s y).end ≡ Ok st) where
  leads : (first s empty).end ≡ Ok st
  leads = steady_first s empty y ∙ at

  so_by : (r : Result Finished ProgramEnd) (builds : List Build) → st.project.terms.earlier ≡ s.earlier → AreRun builds st → (IsOver r → AreAll builds st) → IfOk r (λ f. f.notes ≡ st.project.terms.earlier.notes ++ notes_of builds) → AreSo s builds r
  so_by r builds earlier run all notes = record {
    run = λ n e. subst (AreRun builds) (ok_same (sym leads ∙ e)) run;
    all = λ over. subst (λ (end : Result BuildStep BuildStatus). AllAt builds end (AreAll builds)) (sym leads) (all over);
    notes = if_ok r (λ f is. is ∙ ap (λ (x : Earlier). x.notes ++ notes_of builds) earlier) notes;
  }

pub worked : (s : Site) (st : BuildStep) (r : Result Finished ProgramEnd) {left : ℕ} (a b c : Option Outside) → IsNext s.earlier left st → Follows (first s) (Ok st) a b → Tells (IsRun st r) b c → Tells (IsWork s r) a c
unfolding ◌>>=◌
worked s st r a b c is given run = Tells-then a b c
    (λ x y z h i. let res : IsWork s r x z = record {
      builds = i.builds;
      so = so_by s st x.files h.same r i.builds is.earlier i.run i.all i.notes;
      meets = then_does (run_from i.builds) (first s x.files) st (tally_in r) x y z h i.meets;
    } in res)
    given.told run

-- nothing was built
none_at : (s : Site) (e : ProgramEnd) (x y : Outside) → Meets (first s x.files) (Err e) x y → IsOver (Err e) → AllAt [] (first s empty).end (AreAll [])
none_at s (End verdict) x y h over = subst (λ (end : Result BuildStep BuildStatus). AllAt [] end (AreAll [])) (sym (steady_first s empty x.files ∙ h.same)) refl
none_at s Failed x y h over = absurd over
none_at s NoMemory x y h over = absurd over

unworked : (s : Site) (e : ProgramEnd) (a b : Option Outside) → Follows (first s) (Err e) a b → Tells (IsWork s (Err e)) a b
unfolding ◌>>=◌
unworked s e a b given = Tells-weaken a b
    (λ x y h. let res : IsWork s (Err e) x y = record {
      builds = [];
      so = record { run = λ n at. tt; all = none_at s e x y h; notes = tt };
      meets = leave_does (run_from []) (first s x.files) e x y h;
    } in res)
    given.told

pub not_worked : (s : Site) (r : Result Finished ProgramEnd) (e : ProgramEnd) (a b : Option Outside) → IsErrAnd r (λ t. t ≡ e) → Follows (first s) (Err e) a b → Tells (IsWork s r) a b
not_worked s r e a b is given = subst (λ (t : Result Finished ProgramEnd). Tells (IsWork s t) a b) (sym (err_to is)) (unworked s e a b given)

-- ---- beside the host

-- a host without files, on which nothing was printed
pub record IsBare (x : Outside) : Type 0 where
  pub files : x.files ≡ empty
  pub printed : x.printed ≡ []

pub bare_new : {m : Memory} → m ≡ nothing → IsBare m.outside
bare_new is = subst (λ (m : Memory). IsBare m.outside) (sym is) (record { files = refl; printed = refl })

module _ (s : Site) where
  less_so : (builds : List Build) (ri : Result Finished ProgramEnd) (e : ProgramEnd) → ((verdict : BuildStatus) → e ≢ End verdict) → AreSo s builds ri → AreSo s builds (Err e)
  less_so builds ri e other so = record { run = so.run; all = λ over. absurd (never e other over); notes = tt }
    where
      never : (e : ProgramEnd) → ((verdict : BuildStatus) → e ≢ End verdict) → IsOver (Err e) → ⊥
      never (End verdict) other over = other verdict refl
      never Failed other over = over
      never NoMemory other over = over

  module _ (ri : Result Finished ProgramEnd) (x y : Outside) (bare : IsBare x) (w : IsWork s ri x y) where
    meets_there : Meets (working w.builds s empty) (tally_in ri) x y
    meets_there = subst (λ (f : Files). Meets (working w.builds s f) (tally_in ri) x y) bare.files w.meets

    -- want of memory, whatever came of the build
    pub count_short : (r : Result Finished ProgramEnd) (a : Option Outside) → IsErrAnd r (λ t. t ≡ NoMemory) → Tells (IsCount s r) a a
    count_short r a is = subst (λ (t : Result Finished ProgramEnd). Tells (IsCount s t) a a) (sym (err_to is)) (Tells-same (IsCount s (Err NoMemory)) a
        (λ u. let res : IsCount s (Err NoMemory) u u = record {
          builds = w.builds;
          so = less_so w.builds ri NoMemory (λ verdict e. cc) w.so;
          meets = inl (front_none (counted (working w.builds s empty) u.files).calls u);
        } in res))

    printed_there : {A : Type 0} (steps : Trace A) (end : Result A BuildStatus) → Ends steps end x y → y.printed ≡ printed_by steps.calls
    printed_there steps end h = h.made.printed ∙ ap (λ (t : List ℕ). t ++ printed_by steps.calls) bare.printed

    abbrev steps_there : Trace Tally
    steps_there = working w.builds s empty

    to_count : (r : Result Finished ProgramEnd) → AreSo s w.builds r → {a b : Option Outside} → Follows (counted steps_there) (verdict_in r) a b → Tells (IsCount s r) a b
    to_count r so {a} {b} h = Tells-weaken a b (λ u v i. let res : IsCount s r u v = record { builds = w.builds; so = so; meets = i } in res) h.told

module _ (s : Site) (f : Finished) (x y : Outside) (bare : IsBare x) (w : IsWork s (Ok f) x y) where
  -- the line that is said
  abbrev line_for : List ℕ
  line_for = summary f.jobs (length y.printed) f.nodes (code_of f.verdict)

  counts : counted (steps_there s (Ok f) x y bare w) ≡ (say line_for >>= (λ (u : Unit {0}). done f.verdict))
  counts =
      let there = meets_there s (Ok f) x y bare w in
      let steps = steps_there s (Ok f) x y bare w in
      ap (counted_as steps.calls) there.same
      ∙ ap (λ (t : List ℕ). say (summary f.jobs (length t) f.nodes (code_of f.verdict)) >>= (λ (u : Unit {0}). done f.verdict)) (sym (printed_there s (Ok f) x y bare w steps _ there))

  pub count_said : (a b : Option Outside) → Follows (say line_for) (Ok tt) a b → Tells (IsCount s (Ok f)) a b
  count_said a b said = to_count s (Ok f) x y bare w (Ok f) w.so
      (subst (λ (m : Course BuildStatus). Follows m (Ok f.verdict) a b) (sym counts) (then _ said stays))

  leave_at : (e : ProgramEnd) (u v : Outside) → Meets (say line_for u.files) (Err e) u v → Meets ((say line_for >>= (λ (t : Unit {0}). done f.verdict)) u.files) (Err e) u v
  unfolding ◌>>=◌
  leave_at e u v i = leave_does (λ (t : Unit {0}). done f.verdict) (say line_for u.files) e u v i

  pub count_unsaid : (r : Result Finished ProgramEnd) (e : ProgramEnd) (a b : Option Outside) → IsErrAnd r (λ t. t ≡ e) → Follows (say line_for) (Err e) a b → Tells (IsCount s r) a b
  unfolding say
  count_unsaid r e a b is unsaid =
      subst (λ (t : Result Finished ProgramEnd). Tells (IsCount s t) a b) (sym (err_to is))
      (Tells-weaken a b
      (λ u v i. let res : IsCount s (Err e) u v = record {
        builds = w.builds;
        so = less_so s w.builds (Ok f) e (λ verdict is_end. ok_err (subst (λ (t : ProgramEnd). Meets (say line_for u.files) (Err t) u v) is_end i).same) w.so;
        meets = subst (λ (m : Course BuildStatus). Meets (m u.files) (Err e) u v) (sym counts) (leave_at e u v i);
      } in res)
      unsaid.told)

-- a refusal is said where nothing else was
stop_as : (text : List ℕ) (verdict : BuildStatus) (r : Result Finished ProgramEnd) (u v : Outside) → IsErr r → Meets (stop {A = Finished} text verdict u.files) r u v → Meets (stop {A = BuildStatus} text verdict u.files) (verdict_in r) u v
unfolding ◌>>=◌ quit say
stop_as text verdict (Ok f) u v err h = absurd (false≢true err)
stop_as text verdict (Err (End other)) u v err h = record { same = err_same h.same; made = h.made }
stop_as text verdict (Err Failed) u v err h = h
stop_as text verdict (Err NoMemory) u v err h = h

module _ (s : Site) (verdict : BuildStatus) (x y : Outside) (bare : IsBare x) (w : IsWork s (Err (End verdict)) x y) where
  refuses : counted (steps_there s (Err (End verdict)) x y bare w) ≡ stop y.printed verdict
  refuses =
      let there = meets_there s (Err (End verdict)) x y bare w in
      let steps = steps_there s (Err (End verdict)) x y bare w in
      ap (counted_as steps.calls) there.same
      ∙ ap (λ (t : List ℕ). stop t verdict) (sym (printed_there s (Err (End verdict)) x y bare w steps _ there))

  refused_so : (r : Result Finished ProgramEnd) → IsErr r → AreSo s w.builds r
  refused_so (Ok f) err = absurd (false≢true err)
  refused_so (Err e) err = record { run = w.so.run; all = λ over. w.so.all tt; notes = tt }

  pub count_refused : (r : Result Finished ProgramEnd) (a b : Option Outside) → IsErr r → Follows (stop y.printed verdict) r a b → Tells (IsCount s r) a b
  count_refused r a b err stopped = Tells-weaken a b
      (λ u v i. let res : IsCount s r u v = record {
        builds = w.builds;
        so = refused_so r err;
        meets = subst (λ (m : Course BuildStatus). Meets (m u.files) (verdict_in r) u v) (sym refuses) (stop_as y.printed verdict r u v err i);
      } in res)
      stopped.told
