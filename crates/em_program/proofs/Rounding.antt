-- From the builds behind a step to those from it on.
--     broke          a build broke off
--     lasts          a build is the last one, and the run came to its end behind it
--     refused        what follows a build is refused, or broke off on the way
--     goes           another build follows
--     lower, next_by ..      what a step is made of
use Rattle.std.proofs.Common.{◌≡◌, ◌≢◌, ◌≤◌, ◌-◌, ℕ, zero, suc, Bool, true, false, List, [], ◌∷◌, ◌++◌, length, Option, Some, None, Result, Ok, Err, refl, sym, ap, subst, ◌∙◌, append-nil, append_assoc, arith}
use Rattle.std.specs.Prelude.{◌==◌, IfOk, IsErrAnd, find}
use Rattle.std.specs.FinMap.{empty}
use Rattle.em_host.specs.Outside.{Files, Outside, Tells}
use Rattle.em_host.proofs.Telling.{Tells-then, Tells-weaken}
use Rattle.em_engine.specs.declared.note.Note.{Note}
use Rattle.em_reading.specs.declared.noted.Missing.{Missing}
use Rattle.em_run.specs.Serial.{outputs_of}
use Rattle.em_tree.specs.Trees.{Table}
use Rattle.em_reader.specs.declared.makefiles.Round.{Round}
use Rattle.em_remake.specs.Remaking.{goals_of, changed}
use Rattle.em_program.specs.declared.build.Finished.{Finished}
use Rattle.em_program.specs.declared.build.JobsDone.{JobsDone}
use Rattle.em_program.specs.declared.project.Project.{Project}
use Rattle.em_program.specs.declared.rounds.Remaking.{Remaking}
use Rattle.em_program.specs.declared.rounds.BuildStep.{BuildStep}
use Rattle.em_program.specs.declared.site.Earlier.{Earlier}
use Rattle.em_program.specs.declared.site.Site.{Site}
use Rattle.em_program.specs.declared.verdict.BuildStatus.{BuildStatus}
use Rattle.em_program.specs.declared.stop.ProgramEnd.{ProgramEnd}
use Rattle.em_program.specs.declared.stop.ProgramEnd.TheVariants.{End, Failed, NoMemory}
use Rattle.em_program.specs.Statuses.{has_ended}
use Rattle.em_program.specs.Course.{Course, ◌>>=◌, done, say_all, Meets, Follows}
use Rattle.em_program.specs.Endings.{Tally, is_whole, is_asked, last_by, last_of, next_or_last, after_jobs, run_from, Given, Behind, AreRun, AllAt, AllBehind, AreAll, notes_of, tally_in, IsOver, IsDone, IsRan, IsRun}
use Rattle.em_program.specs.Rounds.{is_lacking, refused_by as lacking_refused, all_there, Build, is_early, left_by, moved, following, goes_by, goes_on, based, final, remade, by_goals, round, rank_of, IsNext}
use Rattle.em_program.specs.Projects.{round_of, IsReady}
use Rattle.em_program.proofs.Building.{ended_so, whole_by}
use Rattle.em_program.proofs.Following.{then_does, leave_does}
use Rattle.em_program.proofs.Steady.{ok_same, ok_err, err_same, steady_following}

pub err_to : {A E : Type 0} {e : E} {r : Result A E} → IsErrAnd r (λ s. s ≡ e) → r ≡ Err e
err_to {r = Ok a} is = absurd is
err_to {r = Err s} is = ap Err is

-- ---- what follows a build

any_behind : (next : Option (Course BuildStep)) (P : BuildStep → Type 0) → ((n : BuildStep) → P n) → Behind next P
any_behind None P all = tt
any_behind (Some next) P all = λ n e. all n

no_more : (next : Option (Course BuildStep)) → Behind next (AreRun [])
no_more next = any_behind next (AreRun []) (λ n. tt)

not_over : (e : ProgramEnd) → ((verdict : BuildStatus) → (let x : Result JobsDone ProgramEnd = Err e in let y : Result JobsDone ProgramEnd = Err (End verdict) in x ≡ y) → ⊥) → IsOver (Err e) → ⊥
not_over (End verdict) short over = short verdict refl
not_over Failed short over = over
not_over NoMemory short over = over

broke_off : (st : BuildStep) (e : ProgramEnd) {a b : Option Outside} → IsRan st.project (Err e) a b → Tells (IsRun st (Err e)) a b
unfolding run_from ◌>>=◌
broke_off st e {a} {b} ran = Tells-weaken a b
    (λ x y h. let res : IsRun st (Err e) x y = record {
      builds = ran.build ∷ [];
      run = (ran.has, no_more (goes_on st ran.build));
      all = λ over. absurd (not_over e ran.short over);
      notes = tt;
      meets = leave_does (λ u. after_jobs (run_from []) st ran.build) (say_all (outputs_of ran.build.made) x.files) e x y h;
    } in res)
    ran.follows.told

pub broke : (st : BuildStep) (r : Result Finished ProgramEnd) (e : ProgramEnd) {a b : Option Outside} → IsErrAnd r (λ s. s ≡ e) → IsRan st.project (Err e) a b → Tells (IsRun st r) a b
broke st r e {a} {b} is ran = subst (λ (t : Result Finished ProgramEnd). Tells (IsRun st t) a b) (sym (err_to is)) (broke_off st e ran)

-- ---- a build whose jobs have run

module _ (st : BuildStep) {d : JobsDone} {a b : Option Outside} (ran : IsRan st.project (Ok d) a b) where
  abbrev it : Build
  it = ran.build

  at_end : is_whole st.project it ≡ true
  at_end = whole_by (is_early st.project it) (length it.made) (length st.project.specs) ran.whole.serial.whole

  -- what the jobs say, and what follows them
  behind_jobs : (bs : List Build) (m : Course Tally) (r : Result Finished ProgramEnd) (x y z : Outside) → after_jobs (run_from bs) st it ≡ m → Meets (say_all (outputs_of it.made) x.files) (Ok tt) x y → Meets (m y.files) (tally_in r) y z
      → Meets (run_from (it ∷ bs) st x.files) (tally_in r) x z
  unfolding run_from ◌>>=◌
  behind_jobs bs m r x y z is said h =
      then_does (λ u. after_jobs (run_from bs) st it) (say_all (outputs_of it.made) x.files) tt (tally_in r) x y z said
      (subst (λ (n : Course Tally). Meets (n y.files) (tally_in r) y z) (sym is) h)

  after_last : (bs : List Build) → goes_on st it ≡ None → after_jobs (run_from bs) st it ≡ last_of st it
  after_last bs none = rw (at_end, none) refl

  after_next : (bs : List Build) (next : Course BuildStep) → goes_on st it ≡ Some next → after_jobs (run_from bs) st it ≡ (next >>= run_from bs)
  after_next bs next some = rw (at_end, some) refl

  one_notes : (notes : List Note) → notes ≡ d.terms.earlier.notes ++ d.built.notes → notes ≡ st.project.terms.earlier.notes ++ notes_of (it ∷ [])
  one_notes notes is =
      is ∙ ap (λ (ns : List Note). d.terms.earlier.notes ++ ns) (ran.whole.notes ∙ sym (append-nil it.notes))
      ∙ ap (λ t. t.earlier.notes ++ notes_of (it ∷ [])) ran.whole.terms

  if_notes : (r : Result Finished ProgramEnd) → IfOk r (λ f. f.notes ≡ d.terms.earlier.notes ++ d.built.notes) → IfOk r (λ f. f.notes ≡ st.project.terms.earlier.notes ++ notes_of (it ∷ []))
  if_notes (Ok f) is = one_notes f.notes is
  if_notes (Err e) is = tt

  pub lasts : (r : Result Finished ProgramEnd) {c : Option Outside} → goes_on st it ≡ None → Follows (last_of st it) (tally_in r) b c → IfOk r (λ f. f.notes ≡ d.terms.earlier.notes ++ d.built.notes) → Tells (IsRun st r) a c
  lasts r {c} none last notes = Tells-then a b c
      (λ x y z h i. let res : IsRun st r x z = record {
        builds = it ∷ [];
        run = (ran.has, no_more (goes_on st it));
        all = λ over. (ran.whole.serial, subst (λ (n : Option (Course BuildStep)). AllBehind [] n (AreAll [])) (sym none) refl);
        notes = if_notes r notes;
        meets = behind_jobs [] (last_of st it) r x y z (after_last [] none) h i;
      } in res)
      ran.follows.told last.told

  module _ (next : Course BuildStep) (some : goes_on st it ≡ Some next) (steady : (f g : Files) → (next f).end ≡ (next g).end) where
    -- what is refused is refused whatever the files are
    refused_at : (e : ProgramEnd) (y z : Outside) → Meets (next y.files) (Err e) y z → IsOver (Err e) → AllBehind [] (goes_on st it) (AreAll [])
    refused_at (End verdict) y z h over = subst (λ (n : Option (Course BuildStep)). AllBehind [] n (AreAll [])) (sym some)
        (subst (λ (end : Result BuildStep BuildStatus). AllAt [] end (AreAll [])) (sym (steady empty y.files ∙ h.same)) refl)
    refused_at Failed y z h over = absurd over
    refused_at NoMemory y z h over = absurd over

    refused_by : (e : ProgramEnd) {c : Option Outside} → Follows next (Err e) b c → Tells (IsRun st (Err e)) a c
    unfolding ◌>>=◌
    refused_by e {c} left = Tells-then a b c
        (λ x y z h i. let res : IsRun st (Err e) x z = record {
          builds = it ∷ [];
          run = (ran.has, no_more (goes_on st it));
          all = λ over. (ran.whole.serial, refused_at e y z i over);
          notes = tt;
          meets = behind_jobs [] (next >>= run_from []) (Err e) x y z (after_next [] next some) h (leave_does (run_from []) (next y.files) e y z i);
        } in res)
        ran.follows.told left.told

    pub refused : (r : Result Finished ProgramEnd) (e : ProgramEnd) {c : Option Outside} → IsErrAnd r (λ s. s ≡ e) → Follows next (Err e) b c → Tells (IsRun st r) a c
    refused r e {c} is left = subst (λ (t : Result Finished ProgramEnd). Tells (IsRun st t) a c) (sym (err_to is)) (refused_by e left)

    -- the step to which it leads is that one
    module _ (n : BuildStep) (bs : List Build) (y z : Outside) (found : Meets (next y.files) (Ok n) y z) where
      leads : (next empty).end ≡ Ok n
      leads = steady empty y.files ∙ found.same

      run_behind : AreRun bs n → Behind (goes_on st it) (AreRun bs)
      run_behind run = subst (λ (m : Option (Course BuildStep)). Behind m (AreRun bs)) (sym some) (λ m e. subst (AreRun bs) (ok_same (sym leads ∙ e)) run)

      all_behind : AreAll bs n → AllBehind bs (goes_on st it) (AreAll bs)
      all_behind all = subst (λ (m : Option (Course BuildStep)). AllBehind bs m (AreAll bs)) (sym some)
          (subst (λ (end : Result BuildStep BuildStatus). AllAt bs end (AreAll bs)) (sym leads) all)

    notes_go : (n : BuildStep) (bs : List Build) → n.project.terms.earlier.notes ≡ st.project.terms.earlier.notes ++ it.notes → (notes : List Note) → notes ≡ n.project.terms.earlier.notes ++ notes_of bs
        → notes ≡ st.project.terms.earlier.notes ++ notes_of (it ∷ bs)
    notes_go n bs earlier notes is =
        is ∙ ap (λ (ns : List Note). ns ++ notes_of bs) earlier ∙ append_assoc st.project.terms.earlier.notes it.notes (notes_of bs)

    if_go : (n : BuildStep) (bs : List Build) (r : Result Finished ProgramEnd) → n.project.terms.earlier.notes ≡ st.project.terms.earlier.notes ++ it.notes → IfOk r (λ f. f.notes ≡ n.project.terms.earlier.notes ++ notes_of bs)
        → IfOk r (λ f. f.notes ≡ st.project.terms.earlier.notes ++ notes_of (it ∷ bs))
    if_go n bs (Ok f) earlier is = notes_go n bs earlier f.notes is
    if_go n bs (Err e) earlier is = tt

    pub goes : (n : BuildStep) (r : Result Finished ProgramEnd) (c e : Option Outside) → n.project.terms.earlier.notes ≡ st.project.terms.earlier.notes ++ it.notes → Follows next (Ok n) b c → Tells (IsRun n r) c e → Tells (IsRun st r) a e
    unfolding ◌>>=◌
    goes n r c e earlier found later = Tells-then a c e
        (λ x z v p i. p v i)
        (Tells-then a b c
        (λ x y z h f. let res : (v : Outside) → IsRun n r z v → IsRun st r x v = λ v i. record {
          builds = it ∷ i.builds;
          run = (ran.has, run_behind n i.builds y z f i.run);
          all = λ over. (ran.whole.serial, all_behind n i.builds y z f (i.all over));
          notes = if_go n i.builds r earlier i.notes;
          meets = behind_jobs i.builds (next >>= run_from i.builds) r x y v (after_next i.builds next some) h
              (then_does (run_from i.builds) (next y.files) n (tally_in r) y z v f i.meets);
        } in res)
        ran.follows.told found.told)
        later

-- ---- what the code gives of it

module _ (st : BuildStep) (ready : IsReady st.project) {d : JobsDone} {a b : Option Outside} (ran : IsRan st.project (Ok d) a b) where
  early_is : has_ended d.terms.order d.built.state.outcomes ≡ is_early st.project ran.build
  early_is = rw (ran.whole.terms, ran.whole.state) (ended_so st.project ready ran.build ran.has.ran)

  last_is : (asked early : Bool) → asked ≡ is_asked st → early ≡ is_early st.project ran.build → last_by d.terms d.built.notes asked d.built.fuel early d.built.state ≡ last_of st ran.build
  last_is asked early is by = rw (ran.whole.terms, ran.whole.notes, ran.whole.fuel, ran.whole.state, is, by) refl

  -- the build of the goals
  pub ends : (r : Result Finished ProgramEnd) {c : Option Outside} → st.remaking ≡ None → Follows (last_by d.terms d.built.notes d.terms.order.question d.built.fuel (has_ended d.terms.order d.built.state.outcomes) d.built.state) (tally_in r) b c
      → IfOk r (λ f. f.notes ≡ d.terms.earlier.notes ++ d.built.notes) → Tells (IsRun st r) a c
  ends r {c} none last notes =
      let asked : d.terms.order.question ≡ is_asked st = rw none (ap (λ t. t.order.question) ran.whole.terms) in
      lasts st ran r (rw none refl) (subst (λ (m : Course Tally). Follows m (tally_in r) b c) (last_is _ _ asked early_is) last) notes

  module _ (m : Remaking) (some : st.remaking ≡ Some m) where
    -- a job of a round ended the run
    pub ends_early : (r : Result Finished ProgramEnd) {c : Option Outside} → has_ended d.terms.order d.built.state.outcomes ≡ true
        → Follows (last_by d.terms d.built.notes m.order.question d.built.fuel (has_ended d.terms.order d.built.state.outcomes) d.built.state) (tally_in r) b c
        → IfOk r (λ f. f.notes ≡ d.terms.earlier.notes ++ d.built.notes) → Tells (IsRun st r) a c
    ends_early r {c} early last notes =
        let asked : m.order.question ≡ is_asked st = rw some refl in
        let none : goes_on st ran.build ≡ None = rw (some, sym early_is ∙ early) refl in
        lasts st ran r none (subst (λ (n : Course Tally). Follows n (tally_in r) b c) (last_is _ _ asked early_is) last) notes

    module _ (late : has_ended d.terms.order d.built.state.outcomes ≡ false) where
      abbrev way : Course BuildStep
      way = following m (moved m.order d.terms d.built.state d.built.notes)

      way_is : goes_on st ran.build ≡ Some way
      way_is = rw (some, sym early_is ∙ late, ran.whole.terms, ran.whole.state, ran.whole.notes) refl

      pub stops : (r : Result Finished ProgramEnd) (e : ProgramEnd) {c : Option Outside} → IsErrAnd r (λ s. s ≡ e) → Follows way (Err e) b c → Tells (IsRun st r) a c
      stops r e is left = refused st ran way way_is (steady_following m _) r e is left

      pub goes_later : (n : BuildStep) (left : ℕ) (r : Result Finished ProgramEnd) (c e : Option Outside) → IsNext (moved m.order d.terms d.built.state d.built.notes).earlier left n → Follows way (Ok n) b c → Tells (IsRun n r) c e → Tells (IsRun st r) a e
      goes_later n left r c e is found later =
          let earlier : n.project.terms.earlier.notes ≡ st.project.terms.earlier.notes ++ ran.build.notes =
          ap (λ (x : Earlier). x.notes) is.earlier ∙ rw (ran.whole.terms, ran.whole.notes) refl in
          goes st ran way way_is (steady_following m _) n r c e earlier found later

-- ---- what a step is made of

pub lower : (r : Result BuildStep ProgramEnd) (past : Earlier) (n : ℕ) → IfOk r (IsNext past 0) → IfOk r (IsNext past n)
lower (Ok st) past n is = record { step = is.step; earlier = is.earlier; left = let low : rank_of st.remaking ≤ 0 = is.left in omega (arith, low) }
lower (Err e) past n is = tt

-- ---- what the code of rounds gives

pub all_here : (t : Table) (cwd : List ℕ) (missing : List Missing) → find (is_lacking t cwd) missing ≡ None → all_there t cwd missing ≡ done tt
all_here t cwd missing e = ap lacking_refused e

-- the tally of a run that broke off, or was refused
pub tally_out : {m : Course Tally} {x y : Option Outside} (r : Result Finished ProgramEnd) (e : ProgramEnd) → IsErrAnd r (λ s. s ≡ e) → Follows m (Err e) x y → Follows m (tally_in r) x y
tally_out {m} {x} {y} r e is p = subst (λ (t : Result Finished ProgramEnd). Follows m (tally_in t) x y) (sym (err_to is)) p

pub round_more : (left : ℕ) (s : Site) (cwd : List ℕ) → left ≢ 0
    → round left s cwd ≡ (based s.start.tree >>= (λ (u : Unit {0}). round_of s.order s.start >>= (λ r. by_goals (left - 1) s cwd r (goals_of r s.start.tree cwd))))
unfolding round
round_more zero s cwd h = absurd (h refl)
round_more (suc n) s cwd h = let e : suc n - 1 ≡ n = omega arith in rw e refl

module _ (left : ℕ) (s : Site) (cwd : List ℕ) (r : Round) where
  none_of : (gs : List (List ℕ)) → (length gs == 0) ≡ true → by_goals left s cwd r gs ≡ final s cwd r
  none_of [] e = refl
  none_of (g ∷ gs) e = let h : suc (length gs) ≡ 0 = grind (arith, e) in absurd (omega (arith, h))

  some_of : (gs : List (List ℕ)) → (length gs == 0) ≡ false → by_goals left s cwd r gs ≡ remade left s cwd r gs
  some_of [] e = absurd cc
  some_of (g ∷ gs) e = refl

  pub no_goals : (gs hs : List (List ℕ)) → gs ≡ hs → (length gs == 0) ≡ true → by_goals left s cwd r hs ≡ final s cwd r
  no_goals gs hs is e = ap (by_goals left s cwd r) (sym is) ∙ none_of gs e

  pub some_goals : (gs hs : List (List ℕ)) → gs ≡ hs → (length gs == 0) ≡ false → by_goals left s cwd r hs ≡ remade left s cwd r gs
  some_goals gs hs is e = ap (by_goals left s cwd r) (sym is) ∙ some_of gs e

module _ (m : Remaking) (s t : Site) (is : t ≡ s) where
  pub next_round : changed m.before t.start.tree m.goals m.cwd ≡ true → following m s ≡ round m.left t m.cwd
  next_round e = ap (following m) (sym is) ∙ rw e refl

  pub last_build : changed m.before t.start.tree m.goals m.cwd ≡ false → following m s ≡ final t m.cwd m.round
  last_build e = ap (following m) (sym is) ∙ rw e refl
