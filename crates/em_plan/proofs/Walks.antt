-- The walk, step by step.
--     marked_..      the marks stay true where a unit is opened and where it gets its number
--     reach_..       what is left where the units of a name were asked for: nothing, no room for one, or a unit and those behind it
--     resume_..      a step leaves what is left
--     weight_..      and less to do
--     steps_..       together, for each step of the code
--     goal_..        the walk from a goal
--     fails_..       errors
--     on_ok, on_ok3, on_ok4, on_err      what a call leaves, and what its caller says of it
use Rattle.std.proofs.Common.{◌≡◌, ◌⊎◌, inl, inr, ℕ, zero, suc, ◌+◌, ◌-◌, ◌^◌, ◌<◌, Bool, true, false, cond, ◌||◌, nat_lt, List, [], ◌∷◌, ◌++◌, length, drop, Some, None, Ok, Err, refl, sym, ap, subst, ◌∙◌, arith, length-append, option_map, slice_get}
use Rattle.std.specs.Prelude.{Result, IfOk, IfErr, OnOk}
use Rattle.std.specs.List.{AllByRecursion}
use Rattle.std.specs.FinMap.{get, empty, get-empty}
use Rattle.std.specs.Cmp.Lexicographic.{slice_cmp}
use Rattle.std.specs.Ordering.{nat_cmp}
use Rattle.std.specs.Option.{is_some}
use Rattle.std.proofs.lemmas.Bool.{lt-ltb}
use Rattle.em_base.proofs.Lemmas.{by_cases}
use borrow.Author.Tests.{ltb-true}
use Rattle.em_view.specs.declared.no.DeskNo.{DeskNo}
use Rattle.em_view.specs.declared.no.DeskNo.TheVariants as desk
use Rattle.em_view.specs.Rows.{is_refusal}
use Rattle.em_implicit.specs.Asking.{Asking, Had, and_then, Asks, Follows, Here, Stops, Lacks}
use Rattle.em_implicit.proofs.Following.{on, first, stopped, leave_asked}
use Rattle.em_plan.specs.declared.making.Need.{Need}
use Rattle.em_plan.specs.declared.making.Making.{Making}
use Rattle.em_plan.specs.declared.making.RuleContext.{RuleContext}
use Rattle.em_plan.specs.declared.planned.PlanJob.{PlanJob}
use Rattle.em_plan.specs.declared.walk.WalkFrame.{WalkFrame}
use Rattle.em_plan.specs.declared.marks.VisitMark.{VisitMark}
use Rattle.em_plan.specs.declared.walk.Walk.{Walk}
use Rattle.em_plan.specs.declared.walk.Walked.{Walked}
use Rattle.em_plan.specs.declared.no.PlanNo.{PlanNo}
use Rattle.em_plan.specs.declared.no.PlanNo.TheVariants as no
use Rattle.em_plan.specs.Once.{is_among}
use Rattle.em_plan.specs.Jobs.{numbers_of, job_of}
use Rattle.em_plan.specs.Order.{limit, Walking, Open, opened, is_open, is_known, has_room, with_job, noted, from_in}
use Rattle.em_plan.specs.Walking.{Units, if_walked, walked_then, finishing, entering, no_visit, units_asked, visiting, of_desk, asks_for, Fails}
use Rattle.em_plan.specs.Resuming.{open_by, opens, reach, after, resume, mark_by, mark_of, open_mark, jobs_mark, open_in, numbers_in, known_in, opening, closing, Marks, AreMarked, weight, Steps}
use Rattle.em_plan.proofs.Leaves.{each_came, Ends, assoc_walked, nothing_walked_then, same_walked}
use Rattle.em_plan.proofs.Lists.{left_of, nothing_of}
use Rattle.em_plan.proofs.Numbering.{numbers_last}
use Rattle.em_plan.proofs.Sought.{most, makefile_units, makefile_few}
use Rattle.em_plan.proofs.Shutting.{AreUnits, Fits, OneMore, unit_kept, units_fit, visiting_kept}

-- ---- marks

open_told : (b : Bool) (ks : List ℕ) → open_mark (mark_by b ks) ≡ b
open_told true ks = refl
open_told false [] = refl
open_told false (k ∷ ks) = refl

jobs_told : (b : Bool) (ks : List ℕ) → jobs_mark (mark_by b ks) ≡ ks
jobs_told true ks = refl
jobs_told false [] = refl
jobs_told false (k ∷ ks) = refl

known_told : (b : Bool) (ks : List ℕ) → is_some (mark_by b ks) ≡ (b || nat_lt 0 (length ks))
known_told true ks = refl
known_told false [] = refl
known_told false (k ∷ ks) = sym (lt-ltb 0 (suc (length ks)) (omega arith))

numbered_told : (ks : List ℕ) (k : ℕ) → mark_by false (ks ++ k ∷ []) ≡ Some (record { begun = false; jobs = ks ++ k ∷ [] })
numbered_told [] k = refl
numbered_told (x ∷ ks) k = refl

module _ (marks : Marks) (stack : List Open) (w : Walked) (m : AreMarked marks stack w.jobs) where
  pub open_is : (q : List ℕ) → open_in marks q ≡ is_open stack q
  open_is q = ap open_mark (m.told q) ∙ open_told (is_open stack q) (numbers_of w.jobs q)

  pub numbers_are : (q : List ℕ) → numbers_in marks q ≡ numbers_of w.jobs q
  numbers_are q = ap jobs_mark (m.told q) ∙ jobs_told (is_open stack q) (numbers_of w.jobs q)

  pub open_all : open_in marks ≡ is_open stack
  open_all = λ i q. open_is q i

  pub numbers_all : numbers_in marks ≡ numbers_of w.jobs
  numbers_all = λ i q. numbers_are q i

  known_is : (q : List ℕ) → known_in marks q ≡ is_known stack w q
  known_is q = ap is_some (m.told q) ∙ known_told (is_open stack q) (numbers_of w.jobs q)

  pub known_all : known_in marks ≡ is_known stack w
  known_all = λ i q. known_is q i

  -- what the code asks for is what the walk asks for
  pub asked_there : (units : Units) (n : List ℕ) → units (known_in marks) n (length (numbers_in marks n)) ≡ units_asked units stack w n
  asked_there units n = ap (λ (k : List ℕ → Bool). units k n (length (numbers_in marks n))) known_all ∙ ap (λ (ks : List ℕ). units (is_known stack w) n (length ks)) (numbers_are n)

-- a unit is opened
pub marked_open : (marks new : Marks) (stack : List Open) (jobs : List PlanJob) (u : Open) → AreMarked marks stack jobs → ((q : List ℕ) → get new q ≡ opening (is_among u.targets q) (get marks q))
    → ((q : List ℕ) → is_among u.targets q ≡ true → is_open stack q ≡ false) → length jobs + length stack < limit → AreMarked new (u ∷ stack) jobs
marked_open marks new stack jobs u m is apart free = record {
  told = λ q. is q ∙ ap (opening (is_among u.targets q)) (m.told q) ∙ by_own (is_among u.targets q) (is_open stack q) (numbers_of jobs q);
  apart = (apart, m.apart);
  few = omega arith;
}
  where
    by_own : (b o : Bool) (ks : List ℕ) → opening b (mark_by o ks) ≡ mark_by (b || o) ks
    by_own true o ks = ap (λ (l : List ℕ). let x : VisitMark = record { begun = true; jobs = l } in Some x) (jobs_told o ks)
    by_own false o ks = refl

-- an open unit gets its number
pub marked_close : (marks new : Marks) (stack : List Open) (jobs : List PlanJob) (u : Open) (job : PlanJob) → AreMarked marks (u ∷ stack) jobs → job.targets ≡ u.targets
    → ((q : List ℕ) → get new q ≡ closing (length jobs) (is_among u.targets q) (get marks q)) → AreMarked new stack (jobs ++ job ∷ [])
marked_close marks new stack jobs u job m made is = record {
  told = λ q. is q ∙ ap (closing (length jobs) (is_among u.targets q)) (m.told q) ∙ by_own q (is_among u.targets q) refl;
  apart = m.apart.1;
  few = rw (length-append jobs (job ∷ [])) (omega (arith, m.few));
}
  where
    numbers : (q : List ℕ) → numbers_of (jobs ++ job ∷ []) q ≡ numbers_of jobs q ++ cond (is_among u.targets q) (length jobs ∷ []) []
    numbers q = numbers_last jobs job q ∙ ap (λ (ts : List (List ℕ)). numbers_of jobs q ++ cond (is_among ts q) (length jobs ∷ []) []) made

    nothing : (ks : List ℕ) → ks ++ [] ≡ ks
    nothing [] = refl
    nothing (k ∷ ks) = ap (λ l. k ∷ l) (nothing ks)

    by_own : (q : List ℕ) (b : Bool) → is_among u.targets q ≡ b → closing (length jobs) b (mark_by (b || is_open stack q) (numbers_of jobs q)) ≡ mark_of stack (jobs ++ job ∷ []) q
    by_own q true e = sym (ap (mark_by (is_open stack q)) (numbers q ∙ ap (λ c. numbers_of jobs q ++ cond c (length jobs ∷ []) []) e)
        ∙ ap (λ o. mark_by o (numbers_of jobs q ++ length jobs ∷ [])) (m.apart.0 q e) ∙ numbered_told (numbers_of jobs q) (length jobs))
    by_own q false e = sym (ap (mark_by (is_open stack q)) (numbers q ∙ ap (λ c. numbers_of jobs q ++ cond c (length jobs ∷ []) []) e ∙ nothing (numbers_of jobs q)))

pub marked_none : AreMarked empty [] []
marked_none = record { told = get-empty (slice_cmp nat_cmp); apart = tt; few = omega arith }

-- ---- errors

module _ {T : Type 0} (asks : Asks T) (a b : T) (x : Asking Walking) where
  pub fails_on : (c : T) (y : Asking Walking) (e : PlanNo) → Follows asks a b x y → Fails asks b c y e → Fails asks a c x e
  fails_on c y no.NoMemory f h = stopped f h
  fails_on c y no.Spent f h = stopped f h
  fails_on c y no.TooManyJobs f h = on f h
  fails_on c y no.NoTargets f h = h

  pub fails_then : (k : Walked → Asking Walking) (e : PlanNo) → Fails asks a b x e → Fails asks a b (walked_then x k) e
  fails_then k no.NoMemory h = leave_asked (if_walked k) (Err desk.NoMemory) refl h
  fails_then k no.Spent h = leave_asked (if_walked k) (Err desk.Spent) refl h
  fails_then k no.TooManyJobs h = first (if_walked k) h
  fails_then k no.NoTargets h = h

  -- a question came to nothing
  pub fails_asked : (d : DeskNo) (e : PlanNo) → is_refusal d ≡ false → e ≡ of_desk d → Stops asks a b d x → Fails asks a b x e
  fails_asked desk.Spent e fair is h = rw is h
  fails_asked desk.NoMemory e fair is h = rw is h
  fails_asked (desk.File f) e fair is h = absurd (let bad : true ≡ false = fair in cc)

-- memory was short
pub fails_want : {T : Type 0} (asks : Asks T) (a : T) (x : Asking Walking) (e : PlanNo) → e ≡ no.NoMemory → Fails asks a a x e
fails_want asks a x e is = rw is (Lacks a x)

-- what a call leaves, and what its caller says of it
pub on_ok : {X E : Type 0} (A B : Type 0) (r : Result X E) → (A → B) → OnOk r A → OnOk r B
on_ok A B (Ok x) f h = f h
on_ok A B (Err e) f h = tt

pub on_ok3 : {X E : Type 0} (A B C D : Type 0) (r : Result X E) → (A → B → C → D) → OnOk r A → OnOk r B → OnOk r C → OnOk r D
on_ok3 A B C D (Ok x) f h k l = f h k l
on_ok3 A B C D (Err e) f h k l = tt

pub on_ok4 : {X E : Type 0} (A B C D F : Type 0) (r : Result X E) → (A → B → C → D → F) → OnOk r A → OnOk r B → OnOk r C → OnOk r D → OnOk r F
on_ok4 A B C D F (Ok x) f h k l m = f h k l m
on_ok4 A B C D F (Err e) f h k l m = tt

pub on_err : {X E : Type 0} (P Q : E → Type 0) (r : Result X E) → ((e : E) → P e → Q e) → IfErr r P → IfErr r Q
on_err P Q (Ok x) f h = tt
on_err P Q (Err e) f h = f e h

-- ---- visits

pub reach_form : (units : Units) (stack : List Open) (w : Walked) (n : List ℕ) → length stack < limit → reach units stack w n ≡ and_then (units_asked units stack w n) (λ ms. after units stack n ms w)
unfolding reach visiting after
reach_form units stack w n free = by_left (limit - length stack) refl
  where
    by_left : (left : ℕ) → limit - length stack ≡ left → visiting units left stack w n ≡ and_then (units_asked units stack w n) (λ ms. entering (visiting units (limit - suc (length stack))) stack n ms w)
    by_left zero none = absurd (omega arith)
    by_left (suc left) some = let same_left : limit - suc (length stack) ≡ left = omega arith in rw same_left refl

module _ {T : Type 0} {asks : Asks T} (units : Units) (stack : List Open) (w : Walked) (n : List ℕ) where
  -- the questions of the name's units come first
  pub reach_stops : {a b : T} {e : DeskNo} → Stops asks a b e (units_asked units stack w n) → Stops asks a b e (reach units stack w n)
  unfolding reach visiting
  reach_stops {a} {b} {e} h = by_left (limit - length stack)
    where
      by_left : (left : ℕ) → Stops asks a b e (visiting units left stack w n)
      by_left zero = leave_asked (λ ms. entering no_visit stack n ms w) (Err e) refl h
      by_left (suc left) = leave_asked (λ ms. entering (visiting units left) stack n ms w) (Err e) refl h

  pub reach_none : {a b : T} → Follows asks a b (units_asked units stack w n) (Had []) → Follows asks a b (reach units stack w n) (Had (Ok w))
  unfolding reach visiting
  reach_none {a} {b} h = by_left (limit - length stack)
    where
      by_left : (left : ℕ) → Follows asks a b (visiting units left stack w n) (Had (Ok w))
      by_left zero = first (λ ms. entering no_visit stack n ms w) h
      by_left (suc left) = first (λ ms. entering (visiting units left) stack n ms w) h

  pub reach_full : {a b : T} (m : Making) (ms : List Making) → Follows asks a b (units_asked units stack w n) (Had (m ∷ ms)) → has_room stack w ≡ false → Follows asks a b (reach units stack w n) (Had (Err no.TooManyJobs))
  unfolding reach visiting
  reach_full {a} {b} m ms h full = by_left (limit - length stack)
    where
      by_left : (left : ℕ) → Follows asks a b (visiting units left stack w n) (Had (Err no.TooManyJobs))
      by_left zero = on (first (λ us. entering no_visit stack n us w) h) (rw full (Here b _))
      by_left (suc left) = on (first (λ us. entering (visiting units left) stack n us w) h) (rw full (Here b _))

  pub reach_after : {a b : T} (ms : List Making) → length stack < limit → Follows asks a b (units_asked units stack w n) (Had ms) → Follows asks a b (reach units stack w n) (after units stack n ms w)
  reach_after {a} {b} ms free h = rw (reach_form units stack w n free) (first (λ us. after units stack n us w) h)

pub room_lt : (stack : List Open) (w : Walked) → has_room stack w ≡ true → length w.jobs + length stack < limit
room_lt stack w e = ltb-true _ _ e

module _ (units : Units) (stack : List Open) (n : List ℕ) where
  -- a unit, and then the name's other units
  pub after_more : (w : Walked) (m : Making) (ms : List Making) → has_room stack w ≡ true
      → after units stack n (m ∷ ms) w ≡ walked_then (finishing (reach units (opened n m ∷ stack)) (opened n m) stack m m.needs w) (after units stack n ms)
  unfolding reach after
  after_more w m ms free = rw free refl

  pub after_full : (w : Walked) (m : Making) (ms : List Making) → has_room stack w ≡ false → after units stack n (m ∷ ms) w ≡ Had (Err no.TooManyJobs)
  unfolding after
  after_full w m ms full = rw full refl

  pub after_one : (w : Walked) (m : Making) → has_room stack w ≡ true → after units stack n (m ∷ []) w ≡ finishing (reach units (opened n m ∷ stack)) (opened n m) stack m m.needs w
  unfolding after
  after_one w m free = after_more w m [] free ∙ nothing_walked_then (finishing (reach units (opened n m ∷ stack)) (opened n m) stack m m.needs w)

  -- the first alone, and then the others
  pub after_first : (w : Walked) (m : Making) (ms : List Making) → after units stack n (m ∷ ms) w ≡ walked_then (after units stack n (m ∷ []) w) (after units stack n ms)
  after_first w m ms = by_cases (has_room stack w) (λ b. has_room stack w ≡ b → after units stack n (m ∷ ms) w ≡ walked_then (after units stack n (m ∷ []) w) (after units stack n ms))
      (λ _ free. after_more w m ms free ∙ ap (λ (x : Asking Walking). walked_then x (after units stack n ms)) (sym (after_one w m free)))
      (λ _ full. after_full w m ms full ∙ ap (λ (x : Asking Walking). walked_then x (after units stack n ms)) (sym (after_full w m [] full))) refl

  module _ (facts : AreUnits units) (m : Making) (fit : Fits stack n m) where
    pub unit_more : (w : Walked) → Ends (OneMore stack n w) (finishing (reach units (opened n m ∷ stack)) (opened n m) stack m m.needs w)
    unfolding reach
    unit_more w = unit_kept (visiting units (limit - length (opened n m ∷ stack)) (opened n m ∷ stack)) stack n m (visiting_kept units facts (limit - length (opened n m ∷ stack)) (opened n m ∷ stack)) fit w

    pub one_more : (w : Walked) → Ends (OneMore stack n w) (after units stack n (m ∷ []) w)
    one_more w = by_cases (has_room stack w) (λ b. has_room stack w ≡ b → Ends (OneMore stack n w) (after units stack n (m ∷ []) w))
        (λ _ free. subst (Ends (OneMore stack n w)) (sym (after_one w m free)) (unit_more w))
        (λ _ full. subst (Ends (OneMore stack n w)) (sym (after_full w m [] full)) tt) refl

  -- behind a unit no question is asked for the name's other units
  pub reach_rest : AreUnits units → {T : Type 0} {asks : Asks T} {a b : T} (w v : Walked) (m : Making) (ms : List Making) → length stack < limit → Follows asks a b (units_asked units stack w n) (Had (m ∷ ms))
      → length (numbers_of v.jobs n) ≡ length (numbers_of w.jobs n) + 1 → reach units stack v n ≡ after units stack n ms v
  reach_rest facts {T} {asks} {a} {b} w v m ms free h more =
      let place : ℕ = length (numbers_of w.jobs n) in
      let known : List ℕ → Bool = is_known stack w in
      let other : List ℕ → Bool = is_known stack v in
      let rest : units other n (place + 1) ≡ Had ms = each_came (λ (us : List Making). us ≡ m ∷ ms → units other n (place + 1) ≡ Had ms) h (facts.next known other n place m ms) refl in
      reach_form units stack v n free ∙ ap (λ (x : Asking (List Making)). and_then x (λ us. after units stack n us v)) (ap (units other n) more ∙ rest)

-- ---- frames

-- a prerequisite that is open
pub resume_circular : (units : Units) (f : WalkFrame) (fs : List WalkFrame) (w : Walked) (x : Need) → drop f.next f.making.needs ≡ x ∷ drop (f.next + 1) f.making.needs → is_open (opens (f ∷ fs)) x.name ≡ true
    → resume units (record f { next = f.next + 1 } ∷ fs) (noted f.target x.name w) ≡ resume units (f ∷ fs) w
unfolding resume
resume_circular units f fs w x more circular = rw (more, circular) refl

-- a prerequisite that isn't
pub resume_into : (units : Units) (f : WalkFrame) (fs : List WalkFrame) (w : Walked) (x : Need) → drop f.next f.making.needs ≡ x ∷ drop (f.next + 1) f.making.needs → is_open (opens (f ∷ fs)) x.name ≡ false
    → walked_then (reach units (opens (f ∷ fs)) w x.name) (resume units (record f { next = f.next + 1 } ∷ fs)) ≡ resume units (f ∷ fs) w
unfolding resume
resume_into units f fs w x more apart = rw (more, apart) (sym (assoc_walked (reach units (opens (f ∷ fs)) w x.name) (finishing (reach units (opens (f ∷ fs))) (open_by f) (opens fs) f.making (drop (f.next + 1) f.making.needs)) (resume units fs)))

-- nothing is left
pub resume_close : (units : Units) (f : WalkFrame) (fs : List WalkFrame) (w : Walked) → drop f.next f.making.needs ≡ [] → resume units fs (with_job (open_by f) (opens fs) f.making w) ≡ resume units (f ∷ fs) w
unfolding resume
resume_close units f fs w none = rw none refl

-- a unit that was opened, and what is around it
pub resume_unit : (units : Units) (fs : List WalkFrame) (w : Walked) (n : List ℕ) (m : Making)
    → resume units (record { target = n; making = m; next = 0 } ∷ fs) w ≡ walked_then (finishing (reach units (opened n m ∷ opens fs)) (opened n m) (opens fs) m m.needs w) (resume units fs)
unfolding resume
resume_unit units fs w n m = refl

pub resume_nothing : (units : Units) (fs : List WalkFrame) (w : Walked) → fs ≡ [] → resume units fs w ≡ Had (Ok w)
unfolding resume
resume_nothing units fs w e = rw e refl

-- a unit of a prerequisite is opened: the walk then comes to the prerequisite again
pub resume_open : (units : Units) → AreUnits units → {T : Type 0} {asks : Asks T} {a b : T} (f : WalkFrame) (fs : List WalkFrame) (w : Walked) (x : Need) (m : Making) (ms : List Making) → drop f.next f.making.needs ≡ x ∷ drop (f.next + 1) f.making.needs
    → is_open (opens (f ∷ fs)) x.name ≡ false → Fits (opens (f ∷ fs)) x.name m → Follows asks a b (units_asked units (opens (f ∷ fs)) w x.name) (Had (m ∷ ms)) → has_room (opens (f ∷ fs)) w ≡ true
    → Follows asks a b (resume units (f ∷ fs) w) (resume units (record { target = x.name; making = m; next = 0 } ∷ f ∷ fs) w)
resume_open units facts {T} {asks} {a} {b} f fs w x m ms more apart fit h free =
    subst (λ (y : Asking Walking). Follows asks a b y (resume units (record { target = x.name; making = m; next = 0 } ∷ f ∷ fs) w)) (resume_into units f fs w x more apart)
    (subst (λ (y : Asking Walking). Follows asks a b (walked_then (reach units stack w x.name) later) y) same
    (first (if_walked later) (reach_after units stack w x.name (m ∷ ms) few h)))
  where
    stack : List Open
    stack = opens (f ∷ fs)

    few : length stack < limit
    few = let l : length w.jobs + length stack < limit = room_lt stack w free in omega arith

    later : Walked → Asking Walking
    later = resume units (record f { next = f.next + 1 } ∷ fs)

    unit : Asking Walking
    unit = finishing (reach units (opened x.name m ∷ stack)) (opened x.name m) stack m m.needs w

    back : (v : Walked) → OneMore stack x.name w v → walked_then (after units stack x.name ms v) later ≡ resume units (f ∷ fs) v
    back v one = ap (λ (y : Asking Walking). walked_then y later) (sym (reach_rest units stack x.name facts w v m ms few h one.1)) ∙ resume_into units f fs v x more apart

    same : walked_then (after units stack x.name (m ∷ ms) w) later ≡ resume units (record { target = x.name; making = m; next = 0 } ∷ f ∷ fs) w
    same = ap (λ (y : Asking Walking). walked_then y later) (after_more units stack x.name w m ms free)
        ∙ assoc_walked unit (after units stack x.name ms) later
        ∙ same_walked (OneMore stack x.name w) unit (λ v. walked_then (after units stack x.name ms v) later) (resume units (f ∷ fs)) (unit_more units stack x.name facts m fit w) back
        ∙ sym (resume_unit units (f ∷ fs) w x.name m)

-- ---- weights

pub weight_later : (f : WalkFrame) (fs : List WalkFrame) (x : Need) (jobs : List PlanJob) → drop f.next f.making.needs ≡ x ∷ drop (f.next + 1) f.making.needs → weight (record f { next = f.next + 1 } ∷ fs) jobs < weight (f ∷ fs) jobs
unfolding weight
weight_later f fs x jobs more = rw more (omega arith)

pub weight_open : (fs : List WalkFrame) (f : WalkFrame) (jobs : List PlanJob) → f.next ≡ 0 → length f.making.needs < 2 ^ 64 → length jobs + length fs < limit → weight (f ∷ fs) jobs < weight fs jobs
unfolding weight
weight_open fs f jobs none few free = rw none (omega arith)

pub weight_close : (f : WalkFrame) (fs : List WalkFrame) (jobs : List PlanJob) (p : PlanJob) → weight fs (jobs ++ p ∷ []) < weight (f ∷ fs) jobs
unfolding weight
weight_close f fs jobs p = rw (length-append jobs (p ∷ [])) (let e : length jobs + 1 + length fs ≡ length jobs + suc (length fs) = omega arith in rw e (omega arith))

-- ---- what the code's tests tell

pub length_opens : (fs : List WalkFrame) → length (opens fs) ≡ length fs
length_opens [] = refl
length_opens (f ∷ fs) = ap suc (length_opens fs)

pub room_is : (w : Walked) (fs : List WalkFrame) (o l : ℕ) (b : Bool) → b ≡ nat_lt (o + l) limit → o ≡ length w.jobs → l ≡ length fs → has_room (opens fs) w ≡ b
room_is w fs o l b e f g = rw (length_opens fs, ← f, ← g) (sym e)

pub first_name : (fs : List WalkFrame) → from_in (opens fs) ≡ option_map (λ (f : WalkFrame). f.target) (slice_get fs 0)
first_name [] = refl
first_name (f ∷ fs) = refl

-- ---- steps

-- the place of a prerequisite is one of theirs
pub need_below : (ns : List Need) (i : ℕ) (x : Need) → slice_get ns i ≡ Some x → i < length ns
need_below [] zero x e = absurd (let b : None ≡ Some x = e in cc)
need_below [] (suc i) x e = absurd (let b : None ≡ Some x = e in cc)
need_below (m ∷ ns) zero x e = omega arith
need_below (m ∷ ns) (suc i) x e = let l = need_below ns i x e in omega (arith, l)

module _ {T : Type 0} (asks : Asks T) (units : Units) (f : WalkFrame) (walk : Walk) (new : Walk) (m : AreMarked walk.marks (open_by f ∷ opens walk.begun) walk.walked.jobs) where
  pub steps_circular : (a : T) (x : Need) → slice_get f.making.needs f.next ≡ Some x → open_in walk.marks x.name ≡ true
      → new ≡ record { begun = record f { next = f.next + 1 } ∷ walk.begun; marks = walk.marks; walked = noted f.target x.name walk.walked } → Steps asks a a units (f ∷ walk.begun) walk.walked new
  steps_circular a x e circular is =
      let more = left_of f.making.needs f.next x e in
      let there : is_open (opens (f ∷ walk.begun)) x.name ≡ true = sym (open_is walk.marks (open_by f ∷ opens walk.begun) walk.walked m x.name) ∙ circular in
      subst (λ (w : Walk). Steps asks a a units (f ∷ walk.begun) walk.walked w) (sym is) (record {
        marked = record { told = m.told; apart = m.apart; few = m.few };
        end = subst (λ (y : Asking Walking). Follows asks a a y (resume units (record f { next = f.next + 1 } ∷ walk.begun) (noted f.target x.name walk.walked))) (resume_circular units f walk.begun walk.walked x more there) (Here a _);
        less = weight_later f walk.begun x walk.walked.jobs more;
      })

  -- a prerequisite whose units all have numbers
  pub steps_past : {a b : T} (x : Need) → slice_get f.making.needs f.next ≡ Some x → open_in walk.marks x.name ≡ false
      → Follows asks a b (units (known_in walk.marks) x.name (length (numbers_in walk.marks x.name))) (Had [])
      → new ≡ record walk { begun = record f { next = f.next + 1 } ∷ walk.begun } → Steps asks a b units (f ∷ walk.begun) walk.walked new
  steps_past {a} {b} x e shut past is =
      let more = left_of f.making.needs f.next x e in
      let stack : List Open = open_by f ∷ opens walk.begun in
      let apart : is_open (opens (f ∷ walk.begun)) x.name ≡ false = sym (open_is walk.marks stack walk.walked m x.name) ∙ shut in
      let none : Follows asks a b (units_asked units stack walk.walked x.name) (Had []) = subst (λ (y : Asking (List Making)). Follows asks a b y (Had [])) (asked_there walk.marks stack walk.walked m units x.name) past in
      let later : Walked → Asking Walking = resume units (record f { next = f.next + 1 } ∷ walk.begun) in
      subst (λ (w : Walk). Steps asks a b units (f ∷ walk.begun) walk.walked w) (sym is) (record {
        marked = record { told = m.told; apart = m.apart; few = m.few };
        end = subst (λ (y : Asking Walking). Follows asks a b y (later walk.walked)) (resume_into units f walk.begun walk.walked x more apart) (first (if_walked later) (reach_none units stack walk.walked x.name none));
        less = weight_later f walk.begun x walk.walked.jobs more;
      })

  -- a unit of the prerequisite is opened
  pub steps_into : AreUnits units → {a b : T} (x : Need) (u : Making) (us : List Making) → slice_get f.making.needs f.next ≡ Some x → open_in walk.marks x.name ≡ false
      → Follows asks a b (units (known_in walk.marks) x.name (length (numbers_in walk.marks x.name))) (Had (u ∷ us)) → length u.needs < 2 ^ 64 → has_room (opens (f ∷ walk.begun)) walk.walked ≡ true
      → new.begun ≡ record { target = x.name; making = u; next = 0 } ∷ f ∷ walk.begun → ((q : List ℕ) → get new.marks q ≡ opening (is_among u.targets q) (get walk.marks q)) → new.walked ≡ walk.walked
      → Steps asks a b units (f ∷ walk.begun) walk.walked new
  steps_into facts {a} {b} x u us e shut some few free begun marks walked =
      let more = left_of f.making.needs f.next x e in
      let stack : List Open = opens (f ∷ walk.begun) in
      let apart : is_open stack x.name ≡ false = sym (open_is walk.marks stack walk.walked m x.name) ∙ shut in
      let here : Follows asks a b (units_asked units stack walk.walked x.name) (Had (u ∷ us)) = subst (λ (y : Asking (List Making)). Follows asks a b y (Had (u ∷ us))) (asked_there walk.marks stack walk.walked m units x.name) some in
      let fit : Fits stack x.name u = (each_came (AllByRecursion (Fits stack x.name)) here (units_fit units facts stack walk.walked x.name apart)).0 in
      let lt : length walk.walked.jobs + length stack < limit = room_lt stack walk.walked free in
      let lengths : length (opens walk.begun) ≡ length walk.begun = length_opens walk.begun in
      record {
        marked = rw (begun, walked) (marked_open walk.marks new.marks stack walk.walked.jobs (opened x.name u) m marks fit.apart lt);
        end = rw (begun, walked) (resume_open units facts f walk.begun walk.walked x u us more apart fit here free);
        less = rw (begun, walked) (weight_open (f ∷ walk.begun) (record { target = x.name; making = u; next = 0 }) walk.walked.jobs refl few (omega (arith, lt, lengths)));
      }

  -- there is no room for it
  pub fails_into : (a b : T) (x : Need) (u : Making) (us : List Making) → slice_get f.making.needs f.next ≡ Some x → open_in walk.marks x.name ≡ false
      → Follows asks a b (units (known_in walk.marks) x.name (length (numbers_in walk.marks x.name))) (Had (u ∷ us))
      → (e : PlanNo) → (e ≡ no.NoMemory) ⊎ ((e ≡ no.TooManyJobs) × (has_room (opens (f ∷ walk.begun)) walk.walked ≡ false))
      → Fails asks a b (resume units (f ∷ walk.begun) walk.walked) e
  fails_into a b x u us e shut some error why =
      let more = left_of f.making.needs f.next x e in
      let stack : List Open = opens (f ∷ walk.begun) in
      let apart : is_open stack x.name ≡ false = sym (open_is walk.marks stack walk.walked m x.name) ∙ shut in
      let here : Follows asks a b (units_asked units stack walk.walked x.name) (Had (u ∷ us)) = subst (λ (y : Asking (List Making)). Follows asks a b y (Had (u ∷ us))) (asked_there walk.marks stack walk.walked m units x.name) some in
      let later : Walked → Asking Walking = resume units (record f { next = f.next + 1 } ∷ walk.begun) in
      subst (λ (y : Asking Walking). Fails asks a b y error) (resume_into units f walk.begun walk.walked x more apart) (fails_then asks a b (reach units stack walk.walked x.name) later error (reached here why))
    where
      stacked : List Open
      stacked = opens (f ∷ walk.begun)

      reached : Follows asks a b (units_asked units stacked walk.walked x.name) (Had (u ∷ us)) → (error ≡ no.NoMemory) ⊎ ((error ≡ no.TooManyJobs) × (has_room stacked walk.walked ≡ false)) → Fails asks a b (reach units stacked walk.walked x.name) error
      reached here (inl is) = rw is (reach_stops units stacked walk.walked x.name (stopped here (Lacks b _)))
      reached here (inr (is, full)) = rw is (reach_full units stacked walk.walked x.name u us here full)

  -- the question for its units came to nothing
  pub fails_need : (a b : T) (x : Need) → slice_get f.making.needs f.next ≡ Some x → open_in walk.marks x.name ≡ false
      → (d : DeskNo) (e : PlanNo) → is_refusal d ≡ false → e ≡ of_desk d → Stops asks a b d (units (known_in walk.marks) x.name (length (numbers_in walk.marks x.name))) → Fails asks a b (resume units (f ∷ walk.begun) walk.walked) e
  fails_need a b x at shut d e fair is h =
      let more = left_of f.making.needs f.next x at in
      let stack : List Open = opens (f ∷ walk.begun) in
      let apart : is_open stack x.name ≡ false = sym (open_is walk.marks stack walk.walked m x.name) ∙ shut in
      let here : Stops asks a b d (units_asked units stack walk.walked x.name) = subst (λ (y : Asking (List Making)). Stops asks a b d y) (asked_there walk.marks stack walk.walked m units x.name) h in
      subst (λ (y : Asking Walking). Fails asks a b y e) (resume_into units f walk.begun walk.walked x more apart)
      (fails_then asks a b (reach units stack walk.walked x.name) (resume units (record f { next = f.next + 1 } ∷ walk.begun)) e (fails_asked asks a b (reach units stack walk.walked x.name) d e fair is (reach_stops units stack walk.walked x.name here)))

  -- memory was short behind it
  pub fails_behind : (a b : T) (x : Need) → slice_get f.making.needs f.next ≡ Some x → open_in walk.marks x.name ≡ false
      → (us : List Making) → Follows asks a b (units (known_in walk.marks) x.name (length (numbers_in walk.marks x.name))) (Had us) → (e : PlanNo) → e ≡ no.NoMemory → Fails asks a b (resume units (f ∷ walk.begun) walk.walked) e
  fails_behind a b x at shut us h e is = fails_need a b x at shut desk.NoMemory e refl is (stopped h (Lacks b (Had us)))

  pub steps_close : (a : T) → slice_get f.making.needs f.next ≡ None
      → new.begun ≡ walk.begun → ((q : List ℕ) → get new.marks q ≡ closing (length walk.walked.jobs) (is_among f.making.targets q) (get walk.marks q))
      → new.walked ≡ record walk.walked { jobs = walk.walked.jobs ++ job_of (open_in walk.marks) (numbers_in walk.marks) f.target (from_in (opens walk.begun)) f.making ∷ [] } → Steps asks a a units (f ∷ walk.begun) walk.walked new
  steps_close a e begun marks walked =
      let stack : List Open = open_by f ∷ opens walk.begun in
      let job : PlanJob = job_of (open_in walk.marks) (numbers_in walk.marks) f.target (from_in (opens walk.begun)) f.making in
      let is : job ≡ job_of (is_open stack) (numbers_of walk.walked.jobs) f.target (from_in (opens walk.begun)) f.making =
      ap (λ (o : List ℕ → Bool). job_of o (numbers_in walk.marks) f.target (from_in (opens walk.begun)) f.making) (open_all walk.marks stack walk.walked m)
      ∙ ap (λ (k : List ℕ → List ℕ). job_of (is_open stack) k f.target (from_in (opens walk.begun)) f.making) (numbers_all walk.marks stack walk.walked m) in
      let after_it : new.walked ≡ with_job (open_by f) (opens walk.begun) f.making walk.walked = walked ∙ ap (λ (j : PlanJob). record walk.walked { jobs = walk.walked.jobs ++ j ∷ [] }) is in
      record {
        marked = rw (begun, walked) (marked_close walk.marks new.marks (opens walk.begun) walk.walked.jobs (open_by f) job m refl marks);
        end = rw (begun, after_it) (subst (λ (y : Asking Walking). Follows asks a a y (resume units walk.begun (with_job (open_by f) (opens walk.begun) f.making walk.walked))) (resume_close units f walk.begun walk.walked (nothing_of f.making.needs f.next e)) (Here a _));
        less = rw (begun, after_it) (weight_close f walk.begun walk.walked.jobs _);
      }

-- ---- from a goal

module _ (units : Units) (w : Walked) (n : List ℕ) where
  -- a goal's unit alone
  pub goal_unit : (m : Making) → has_room [] w ≡ true → after units [] n (m ∷ []) w ≡ resume units (record { target = n; making = m; next = 0 } ∷ []) w
  unfolding resume
  goal_unit m free = after_one units [] n w m free ∙ sym (nothing_walked_then (finishing (reach units (opened n m ∷ [])) (opened n m) [] m m.needs w))

  -- whatever the other units are: the walk from one, and then from the others
  pub goal_again : AreUnits units → {T : Type 0} {asks : Asks T} {a b c : T} (v : Walked) (m : Making) (ms : List Making) → Follows asks a b (units_asked units [] w n) (Had (m ∷ ms))
      → Follows asks b c (after units [] n (m ∷ []) w) (Had (Ok v)) → Follows asks a c (visiting units limit [] w n) (visiting units limit [] v n) × (length (numbers_of v.jobs n) ≡ length (numbers_of w.jobs n) + 1)
  unfolding reach
  goal_again facts {T} {asks} {a} {b} {c} v m ms h unit =
      let fit : Fits [] n m = (each_came (AllByRecursion (Fits [] n)) h (units_fit units facts [] w n refl)).0 in
      let more : OneMore [] n w v = each_came (λ (r : Walking). IfOk r (OneMore [] n w)) unit (one_more units [] n facts m fit w) in
      let start : Follows asks a b (reach units [] w n) (walked_then (after units [] n (m ∷ []) w) (after units [] n ms)) = subst (λ (y : Asking Walking). Follows asks a b (reach units [] w n) y) (after_first units [] n w m ms) (reach_after units [] w n (m ∷ ms) (omega arith) h) in
      let there : Follows asks b c (walked_then (after units [] n (m ∷ []) w) (after units [] n ms)) (after units [] n ms v) = first (if_walked (after units [] n ms)) unit in
      (subst (λ (y : Asking Walking). Follows asks a c (reach units [] w n) y) (sym (reach_rest units [] n facts w v m ms (omega arith) h more.1)) (on start there), more.1)

  pub goal_fails : {T : Type 0} (asks : Asks T) (a b c : T) (m : Making) (ms : List Making) (e : PlanNo) → Follows asks a b (units_asked units [] w n) (Had (m ∷ ms))
      → Fails asks b c (after units [] n (m ∷ []) w) e → Fails asks a c (visiting units limit [] w n) e
  unfolding reach
  goal_fails asks a b c m ms e h unit =
      let start : Follows asks a b (reach units [] w n) (walked_then (after units [] n (m ∷ []) w) (after units [] n ms)) = subst (λ (y : Asking Walking). Follows asks a b (reach units [] w n) y) (after_first units [] n w m ms) (reach_after units [] w n (m ∷ ms) (omega arith) h) in
      fails_on asks a b (reach units [] w n) c (walked_then (after units [] n (m ∷ []) w) (after units [] n ms)) e start (fails_then asks b c (after units [] n (m ∷ []) w) (after units [] n ms) e unit)

  pub goal_none : {T : Type 0} {asks : Asks T} {a b : T} → Follows asks a b (units_asked units [] w n) (Had []) → Follows asks a b (visiting units limit [] w n) (Had (Ok w))
  unfolding reach
  goal_none h = reach_none units [] w n h

  pub goal_stops : {T : Type 0} (asks : Asks T) (a b : T) (d : DeskNo) (e : PlanNo) → is_refusal d ≡ false → e ≡ of_desk d → Stops asks a b d (units_asked units [] w n) → Fails asks a b (visiting units limit [] w n) e
  unfolding reach
  goal_stops asks a b d e fair is h = fails_asked asks a b (reach units [] w n) d e fair is (reach_stops units [] w n h)

-- the same where the code's marks tell what is known
module _ {T : Type 0} (asks : Asks T) (a b : T) (units : Units) (walk : Walk) (n : List ℕ) (marked : AreMarked walk.marks [] walk.walked.jobs) where
  pub goal_passed : (ms : List Making) → Follows asks a b (units (known_in walk.marks) n (length (numbers_in walk.marks n))) (Had ms) → Follows asks a b (units_asked units [] walk.walked n) (Had ms)
  goal_passed ms h = subst (λ (y : Asking (List Making)). Follows asks a b y (Had ms)) (asked_there walk.marks [] walk.walked marked units n) h

  pub goal_ends : Follows asks a b (units (known_in walk.marks) n (length (numbers_in walk.marks n))) (Had []) → Follows asks a b (visiting units limit [] walk.walked n) (Had (Ok walk.walked))
  goal_ends h = goal_none units walk.walked n (goal_passed [] h)

  pub goal_asked : (d : DeskNo) (e : PlanNo) → is_refusal d ≡ false → e ≡ of_desk d → Stops asks a b d (units (known_in walk.marks) n (length (numbers_in walk.marks n))) → Fails asks a b (visiting units limit [] walk.walked n) e
  goal_asked d e fair is h = goal_stops units walk.walked n asks a b d e fair is (subst (λ (y : Asking (List Making)). Stops asks a b d y) (asked_there walk.marks [] walk.walked marked units n) h)

module _ {T : Type 0} (asks : Asks T) (a b c : T) where
  pub goal_turn : (units : Units) → AreUnits units → (walk : Walk) (n : List ℕ) → AreMarked walk.marks [] walk.walked.jobs → (v : Walked) (m : Making) (ms : List Making)
      → Follows asks a b (units (known_in walk.marks) n (length (numbers_in walk.marks n))) (Had (m ∷ ms)) → Follows asks b c (after units [] n (m ∷ []) walk.walked) (Had (Ok v))
      → Follows asks a c (visiting units limit [] walk.walked n) (visiting units limit [] v n)
  goal_turn units facts walk n marked v m ms h unit = (goal_again units walk.walked n facts v m ms (goal_passed asks a b units walk n marked (m ∷ ms) h) unit).0

  pub goal_less : (m : RuleContext) (walk : Walk) (n : List ℕ) → AreMarked walk.marks [] walk.walked.jobs → (v : Walked) (u : Making) (us : List Making)
      → Follows asks a b (asks_for m (known_in walk.marks) n (length (numbers_in walk.marks n))) (Had (u ∷ us)) → Follows asks b c (after (asks_for m) [] n (u ∷ []) walk.walked) (Had (Ok v))
      → most m.book.now.rules n - length (numbers_of v.jobs n) < most m.book.now.rules n - length (numbers_of walk.walked.jobs n)
  goal_less m walk n marked v u us h unit =
      let here = goal_passed asks a b (asks_for m) walk n marked (u ∷ us) h in
      let more = (goal_again (asks_for m) walk.walked n (makefile_units m) v u us here unit).1 in
      let few : length (numbers_of walk.walked.jobs n) < most m.book.now.rules n =
      each_came (λ (ms : List Making). 0 < length ms → length (numbers_of walk.walked.jobs n) < most m.book.now.rules n) here (makefile_few m (is_known [] walk.walked) n (length (numbers_of walk.walked.jobs n))) (omega arith) in
      omega (arith, more, few)

pub goal_start : (units : Units) (walk new : Walk) (n : List ℕ) (m : Making) → AreMarked walk.marks [] walk.walked.jobs → walk.begun ≡ []
    → has_room (opens walk.begun) walk.walked ≡ true → new.begun ≡ record { target = n; making = m; next = 0 } ∷ walk.begun → ((q : List ℕ) → get new.marks q ≡ opening (is_among m.targets q) (get walk.marks q)) → new.walked ≡ walk.walked
    → AreMarked new.marks (opens new.begun) new.walked.jobs × (after units [] n (m ∷ []) walk.walked ≡ resume units new.begun new.walked)
goal_start units walk new n m marked nothing free begun marks walked =
    let free_now : has_room [] walk.walked ≡ true = ap (λ (fs : List WalkFrame). has_room (opens fs) walk.walked) (sym nothing) ∙ free in
    let one : new.begun ≡ record { target = n; making = m; next = 0 } ∷ [] = begun ∙ ap (λ (fs : List WalkFrame). record { target = n; making = m; next = 0 } ∷ fs) nothing in
    (rw (one, walked) (marked_open walk.marks new.marks [] walk.walked.jobs (opened n m) marked marks (λ q _. refl) (room_lt [] walk.walked free_now)), rw (one, walked) (goal_unit units walk.walked n m free_now))

pub goal_full : (units : Units) (walk : Walk) (n : List ℕ) (m : Making) → walk.begun ≡ [] → {T : Type 0} (asks : Asks T) (a : T) (e : PlanNo)
    → (e ≡ no.NoMemory) ⊎ ((e ≡ no.TooManyJobs) × (has_room (opens walk.begun) walk.walked ≡ false)) → Fails asks a a (after units [] n (m ∷ []) walk.walked) e
goal_full units walk n m nothing asks a e (inl is) = fails_want asks a _ e is
goal_full units walk n m nothing asks a e (inr (is, full)) =
    let none : has_room [] walk.walked ≡ false = ap (λ (fs : List WalkFrame). has_room (opens fs) walk.walked) (sym nothing) ∙ full in
    rw (is, after_full units [] n walk.walked m [] none) (Here a _)
