-- What holds when a walk has ended.
--     plan_few           there are at most so many jobs
--     dropped_open       when a unit gets its number, the units of its prerequisites have one, or these are open
--     no_notes           where prerequisites have lower ranks than their targets, nothing is dropped
use Rattle.std.proofs.Common.{◌≡◌, ◌⊎◌, inl, inr, ℕ, zero, suc, ◌+◌, ◌-◌, ◌<◌, ◌≤◌, Bool, true, false, cond, ◌||◌, List, [], ◌∷◌, ◌++◌, length, drop, Option, Some, None, Ok, Err, refl, sym, ap, subst, ◌∙◌, arith, length-append, length-drop, slice_get}
use Rattle.std.specs.List.{All, AllByRecursion}
use borrow.Author.Tests.{ltb-true}
use Rattle.em_base.proofs.Lemmas.{by_cases, same_key}
use Rattle.em_plan.specs.declared.making.Need.{Need}
use Rattle.em_plan.specs.declared.making.Making.{Making}
use Rattle.em_plan.specs.declared.planned.Plan.{Plan}
use Rattle.em_plan.specs.declared.planned.PlanJob.{PlanJob}
use Rattle.em_plan.specs.declared.walk.Walked.{Walked}
use Rattle.em_plan.specs.declared.no.PlanNo.TheVariants.{TooManyJobs}
use Rattle.em_plan.specs.Once.{each_once, is_among, same}
use Rattle.em_plan.specs.Jobs.{numbers_of, job_of}
use Rattle.em_plan.specs.Order.{limit, Says, Walking, Open, opened, and_then, is_open, is_known, finish, enter, visit, visit_all, has_room, with_job, noted, no_room, from_in, units_left, nothing_walked}
use Rattle.em_plan.specs.Plans.{plan_for}
use Rattle.em_plan.specs.Units.{IsUnits}
use Rattle.em_plan.proofs.Lists.{all_by_recursion, each_other, each_place, place_of}
use Rattle.em_plan.proofs.Numbering.{numbers_append}
use Rattle.em_plan.proofs.Keeping.{Kept, kept_both, kept_same, Visits, finish_kept, rest_of, visit_kept}
use Rattle.em_plan.proofs.Serial.{plan_walked}

-- ---- there are at most so many

abbrev Few : List Open → Walked → Type 0
Few stack w = length w.jobs + length stack ≤ limit

abbrev Holds : (Walked → List ℕ → Walking) → List Open → Type 0
Holds visit stack = (w v : Walked) (n : List ℕ) → Few stack w → visit w n ≡ Ok v → Few stack v

finish_few : (visit : Walked → List ℕ → Walking) (u : Open) (stack : List Open) (m : Making) → Holds visit (u ∷ stack) → (ns : List Need) (w v : Walked) → Few (u ∷ stack) w → finish visit u stack m ns w ≡ Ok v → Few stack v
finish_few visit u stack m h [] w v few e = subst (Few stack) (let s : with_job u stack m w ≡ v = cc in s)
    (rw (length-append w.jobs (job_of (is_open (u ∷ stack)) (numbers_of w.jobs) u.trigger (from_in stack) m ∷ [])) (let l : length w.jobs + suc (length stack) ≤ limit = few in omega arith))
finish_few visit u stack m h (n ∷ ns) w v few e = by_open (is_open (u ∷ stack) n.name) e (λ x. finish_few visit u stack m h ns x v)
  where
    by_visit : (r : Walking) → visit w n.name ≡ r → and_then r (finish visit u stack m ns) ≡ Ok v → ((x : Walked) → Few (u ∷ stack) x → finish visit u stack m ns x ≡ Ok v → Few stack v) → Few stack v
    by_visit (Err x) is g rest = absurd (let b : Err x ≡ Ok v = g in cc)
    by_visit (Ok x) is g rest = rest x (h w x n.name few is) g

    by_open : (b : Bool) → and_then (cond b (Ok (noted u.trigger n.name w)) (visit w n.name)) (finish visit u stack m ns) ≡ Ok v → ((x : Walked) → Few (u ∷ stack) x → finish visit u stack m ns x ≡ Ok v → Few stack v) → Few stack v
    by_open true g rest = rest (noted u.trigger n.name w) few g
    by_open false g rest = by_visit (visit w n.name) refl g rest

enter_few : (visit : List Open → Walked → List ℕ → Walking) (stack : List Open) → ((u : Open) → Holds (visit (u ∷ stack)) (u ∷ stack)) → (n : List ℕ) (ms : List Making) (w v : Walked) → Few stack w → enter visit stack n ms w ≡ Ok v → Few stack v
enter_few visit stack h n [] w v few e = subst (Few stack) (let s : w ≡ v = cc in s) few
enter_few visit stack h n (m ∷ ms) w v few e = by_room (has_room stack w) refl e (λ x. enter_few visit stack h n ms x v)
  where
    by_unit : (r : Walking) → has_room stack w ≡ true → finish (visit (opened n m ∷ stack)) (opened n m) stack m m.needs w ≡ r → and_then r (enter visit stack n ms) ≡ Ok v → ((x : Walked) → Few stack x → enter visit stack n ms x ≡ Ok v → Few stack v) → Few stack v
    by_unit (Err x) free is g rest = absurd (let b : Err x ≡ Ok v = g in cc)
    by_unit (Ok x) free is g rest = rest x (finish_few (visit (opened n m ∷ stack)) (opened n m) stack m (h (opened n m)) m.needs w x (let l : length w.jobs + length stack < limit = ltb-true _ _ free in omega arith) is) g

    by_room : (b : Bool) → has_room stack w ≡ b → cond b (and_then (finish (visit (opened n m ∷ stack)) (opened n m) stack m m.needs w) (enter visit stack n ms)) (Err TooManyJobs) ≡ Ok v
        → ((x : Walked) → Few stack x → enter visit stack n ms x ≡ Ok v → Few stack v) → Few stack v
    by_room false full g rest = absurd (let b : Err TooManyJobs ≡ Ok v = g in cc)
    by_room true free g rest = by_unit (finish (visit (opened n m ∷ stack)) (opened n m) stack m m.needs w) free refl g rest

visit_few : (says : Says) (left : ℕ) (stack : List Open) → Holds (visit says left stack) stack
unfolding visit
visit_few says zero stack w v n few e = enter_few no_room stack (λ u x y q _ g. absurd (let b : Err TooManyJobs ≡ Ok y = g in cc)) n (units_left says stack w n) w v few e
visit_few says (suc left) stack w v n few e = enter_few (visit says left) stack (λ u. visit_few says left (u ∷ stack)) n (units_left says stack w n) w v few e

goals_few : (says : Says) (goals : List (List ℕ)) (w v : Walked) → Few [] w → visit_all says goals w ≡ Ok v → Few [] v
goals_few says [] w v few e = subst (Few []) (let s : w ≡ v = cc in s) few
goals_few says (g ∷ gs) w v few e = by_visit (visit says limit [] w g) refl e (λ x. goals_few says gs x v)
  where
    by_visit : (r : Walking) → visit says limit [] w g ≡ r → and_then r (visit_all says gs) ≡ Ok v → ((x : Walked) → Few [] x → visit_all says gs x ≡ Ok v → Few [] v) → Few [] v
    by_visit (Err x) is h rest = absurd (let b : Err x ≡ Ok v = h in cc)
    by_visit (Ok x) is h rest = rest x (visit_few says limit [] w x g few is) h

pub plan_few : (says : Says) (goals : List (List ℕ)) (p : Plan) → plan_for says goals ≡ Ok p → length p.jobs ≤ limit
plan_few says goals p e = let l : length p.jobs + 0 ≤ limit = goals_few says (each_once [] goals) nothing_walked (record { jobs = p.jobs; notes = p.notes }) (omega arith) (plan_walked says goals p e) in omega arith

-- ---- what was dropped

module _ (says : Says) (facts : IsUnits says) where
  -- each unit of the name has a number
  abbrev pub IsDone : List Open → Walked → List ℕ → Type 0
  IsDone stack w n = length (says (is_known stack w) n) ≤ length (numbers_of w.jobs n)

  same_length : (known other : List ℕ → Bool) (n : List ℕ) → length (says known n) ≡ length (says other n)
  same_length known other n = elim (facts.alone known other n) [ inl is ↦ ap length is | inr one ↦ one.0 ∙ sym one.1 ]

  pub more_numbers : (jobs more : List PlanJob) (n : List ℕ) → length (numbers_of jobs n) ≤ length (numbers_of (jobs ++ more) n)
  more_numbers jobs more n = rw (numbers_append 0 jobs more n, length-append (numbers_of jobs n) _) (omega arith)

  pub done_later : (stack inner : List Open) (w v : Walked) (n : List ℕ) → (more : List PlanJob) → v.jobs ≡ w.jobs ++ more → IsDone stack w n → IsDone inner v n
  done_later stack inner w v n more is done =
      let a : length (says (is_known stack w) n) ≡ length (says (is_known inner v) n) = same_length (is_known stack w) (is_known inner v) n in
      let b : length (numbers_of w.jobs n) ≤ length (numbers_of v.jobs n) = subst (λ (js : List PlanJob). length (numbers_of w.jobs n) ≤ length (numbers_of js n)) (sym is) (more_numbers w.jobs more n) in
      omega (arith, a, b, done)

  left_none : (stack : List Open) (w : Walked) (n : List ℕ) → units_left says stack w n ≡ [] → IsDone stack w n
  left_none stack w n e =
      let a : length (units_left says stack w n) ≡ 0 = ap length e in
      let b = length-drop (length (numbers_of w.jobs n)) (says (is_known stack w) n) in
      omega (arith, a, b)

  none_left : (stack : List Open) (w : Walked) (n : List ℕ) → IsDone stack w n → units_left says stack w n ≡ []
  none_left stack w n done = nil_of (units_left says stack w n) (let b = length-drop (length (numbers_of w.jobs n)) (says (is_known stack w) n) in omega (arith, b, done))
    where
      nil_of : (xs : List Making) → length xs ≡ 0 → xs ≡ []
      nil_of [] e = refl
      nil_of (x ∷ xs) e = absurd (omega (arith, e))

  abbrev pub Completes : (Walked → List ℕ → Walking) → List Open → Type 0
  Completes visit stack = (w v : Walked) (n : List ℕ) → is_open stack n ≡ false → visit w n ≡ Ok v → IsDone stack v n

  enter_done : (visit : List Open → Walked → List ℕ → Walking) (stack : List Open) → ((u : Open) → Visits says (visit (u ∷ stack)) (u ∷ stack)) → (n : List ℕ) → is_open stack n ≡ false
      → (ms : List Making) (w v : Walked) → units_left says stack w n ≡ ms → enter visit stack n ms w ≡ Ok v → IsDone stack v n
  enter_done visit stack h n shut [] w v left e = subst (λ (x : Walked). IsDone stack x n) (let s : w ≡ v = cc in s) (left_none stack w n left)
  enter_done visit stack h n shut (m ∷ ms) w v left e = by_room (has_room stack w) e (λ x. enter_done visit stack h n shut ms x v)
    where
      by_unit : (r : Walking) → finish (visit (opened n m ∷ stack)) (opened n m) stack m m.needs w ≡ r → and_then r (enter visit stack n ms) ≡ Ok v
          → ((x : Walked) → units_left says stack x n ≡ ms → enter visit stack n ms x ≡ Ok v → IsDone stack v n) → IsDone stack v n
      by_unit (Err x) is g rest = absurd (let b : Err x ≡ Ok v = g in cc)
      by_unit (Ok x) is g rest = rest x (rest_of says facts (visit (opened n m ∷ stack)) stack w x n m ms (h (opened n m)) shut left is) g

      by_room : (b : Bool) → cond b (and_then (finish (visit (opened n m ∷ stack)) (opened n m) stack m m.needs w) (enter visit stack n ms)) (Err TooManyJobs) ≡ Ok v
          → ((x : Walked) → units_left says stack x n ≡ ms → enter visit stack n ms x ≡ Ok v → IsDone stack v n) → IsDone stack v n
      by_room false g rest = absurd (let b : Err TooManyJobs ≡ Ok v = g in cc)
      by_room true g rest = by_unit (finish (visit (opened n m ∷ stack)) (opened n m) stack m m.needs w) refl g rest

  pub visit_done : (left : ℕ) (stack : List Open) → Completes (visit says left stack) stack
  unfolding visit
  visit_done zero stack w v n shut e = enter_done no_room stack (λ u x y q _ g. absurd (let b : Err TooManyJobs ≡ Ok y = g in cc)) n shut (units_left says stack w n) w v refl e
  visit_done (suc left) stack w v n shut e = enter_done (visit says left) stack (λ u. visit_kept says facts left (u ∷ stack)) n shut (units_left says stack w n) w v refl e

  -- each prerequisite was open, or its units have numbers
  pub record Finished (u : Open) (stack : List Open) (m : Making) (ns : List Need) (w v : Walked) : Type 0 where
    pub last : Walked
    pub is : v ≡ with_job u stack m last
    pub kept : Kept says (u ∷ stack) w last
    pub met : AllByRecursion (λ (x : Need). (is_open (u ∷ stack) x.name ≡ true) ⊎ IsDone (u ∷ stack) last x.name) ns

  pub finish_met : (visit : Walked → List ℕ → Walking) (u : Open) (stack : List Open) (m : Making) → Visits says visit (u ∷ stack) → Completes visit (u ∷ stack) → (ns : List Need) (w v : Walked)
      → finish visit u stack m ns w ≡ Ok v → Finished u stack m ns w v
  finish_met visit u stack m h c [] w v e = let k = finish_kept says visit u stack m h [] w v e in record { last = k.0; is = k.1; kept = k.2; met = tt }
  finish_met visit u stack m h c (n ∷ ns) w v e =
      by_open (is_open (u ∷ stack) n.name) refl e (λ x. finish_met visit u stack m h c ns x v)
    where
      Rest : Type 0
      Rest = (x : Walked) → finish visit u stack m ns x ≡ Ok v → Finished u stack m ns x v

      by_visit : (r : Walking) → is_open (u ∷ stack) n.name ≡ false → visit w n.name ≡ r → and_then r (finish visit u stack m ns) ≡ Ok v → Rest → Finished u stack m (n ∷ ns) w v
      by_visit (Err x) shut is g rest = absurd (let b : Err x ≡ Ok v = g in cc)
      by_visit (Ok x) shut is g rest =
          let f = rest x g in record {
            last = f.last;
            is = f.is;
            kept = kept_both says (u ∷ stack) (u ∷ stack) w x f.last (λ q there. there) (h w x n.name shut is) f.kept;
            met = (inr (done_later (u ∷ stack) (u ∷ stack) x f.last n.name f.kept.more f.kept.jobs (c w x n.name shut is)), f.met);
          }

      by_open : (b : Bool) → is_open (u ∷ stack) n.name ≡ b → and_then (cond b (Ok (noted u.trigger n.name w)) (visit w n.name)) (finish visit u stack m ns) ≡ Ok v → Rest → Finished u stack m (n ∷ ns) w v
      by_open true is g rest =
          let f = rest (noted u.trigger n.name w) g in record {
            last = f.last;
            is = f.is;
            kept = kept_both says (u ∷ stack) (u ∷ stack) w (noted u.trigger n.name w) f.last (λ q there. there) (kept_same says (u ∷ stack) w (noted u.trigger n.name w) refl) f.kept;
            met = (inl is, f.met);
          }
      by_open false isnt g rest = by_visit (visit w n.name) isnt refl g rest

  pub dropped_open : (left : ℕ) (stack : List Open) (n : List ℕ) (m : Making) (w v : Walked) → finish (visit says left (opened n m ∷ stack)) (opened n m) stack m m.needs w ≡ Ok v
      → (last : Walked) × (v ≡ with_job (opened n m) stack m last) × All (λ (x : Need). (is_open (opened n m ∷ stack) x.name ≡ true) ⊎ (units_left says (opened n m ∷ stack) last x.name ≡ [])) m.needs
  dropped_open left stack n m w v e =
      let f = finish_met (visit says left (opened n m ∷ stack)) (opened n m) stack m (visit_kept says facts left (opened n m ∷ stack)) (visit_done left (opened n m ∷ stack)) m.needs w v e in (
        f.last,
        f.is,
        each_place (λ (x : Need). (is_open (opened n m ∷ stack) x.name ≡ true) ⊎ (units_left says (opened n m ∷ stack) f.last x.name ≡ [])) m.needs (λ i x at.
            elim (place_of (λ (y : Need). (is_open (opened n m ∷ stack) y.name ≡ true) ⊎ IsDone (opened n m ∷ stack) f.last y.name) m.needs i x f.met at) [
              | inl there ↦ inl there
              | inr done ↦ inr (none_left (opened n m ∷ stack) f.last x.name done)
            ]),
      )

-- ---- without circles

module _ (says : Says) (rank : List ℕ → ℕ) where
  -- each prerequisite ranks below the name and the targets
  abbrev Falls : List ℕ → Making → Type 0
  Falls n m = AllByRecursion (λ (x : Need). (rank x.name < rank n) × AllByRecursion (λ (t : List ℕ). rank x.name < rank t) m.targets) m.needs

  abbrev Above : ℕ → List (List ℕ) → Type 0
  Above k ts = AllByRecursion (λ (t : List ℕ). k < rank t) ts

  abbrev AllAbove : ℕ → List Open → Type 0
  AllAbove k stack = AllByRecursion (λ (u : Open). Above k u.targets) stack

  lower : (j k : ℕ) (ts : List (List ℕ)) → j < k → Above k ts → Above j ts
  lower j k [] l h = tt
  lower j k (t ∷ ts) l h = (omega (arith, h.0), lower j k ts l h.1)

  all_lower : (j k : ℕ) (stack : List Open) → j < k → AllAbove k stack → AllAbove j stack
  all_lower j k [] l h = tt
  all_lower j k (u ∷ stack) l h = (lower j k u.targets l h.0, all_lower j k stack l h.1)

  apart : (ts : List (List ℕ)) (n : List ℕ) → Above (rank n) ts → is_among ts n ≡ false
  apart [] n h = refl
  apart (t ∷ ts) n h = by_case (same n t) refl (apart ts n h.1)
    where
      by_case : (b : Bool) → same n t ≡ b → is_among ts n ≡ false → (b || is_among ts n) ≡ false
      by_case true is e = absurd (let l : rank n < rank t = h.0 in let s : rank n ≡ rank t = ap rank (same_key n t is) in omega arith)
      by_case false isnt e = e

  all_apart : (stack : List Open) (n : List ℕ) → AllAbove (rank n) stack → is_open stack n ≡ false
  all_apart [] n h = refl
  all_apart (u ∷ stack) n h = rw (apart u.targets n h.0) (all_apart stack n h.1)

  abbrev Quiet : (Walked → List ℕ → Walking) → List Open → Type 0
  Quiet visit stack = (w v : Walked) (n : List ℕ) → AllAbove (rank n) stack → visit w n ≡ Ok v → v.notes ≡ w.notes

  finish_quiet : (visit : Walked → List ℕ → Walking) (u : Open) (stack : List Open) (m : Making) → Quiet visit (u ∷ stack) → (ns : List Need) → AllByRecursion (λ (x : Need). AllAbove (rank x.name) (u ∷ stack)) ns
      → (w v : Walked) → finish visit u stack m ns w ≡ Ok v → v.notes ≡ w.notes
  finish_quiet visit u stack m quiet [] low w v e = ap (λ (x : Walked). x.notes) (let s : v ≡ with_job u stack m w = cc in s)
  finish_quiet visit u stack m quiet (n ∷ ns) low w v e = by_visit (visit w n.name) refl (rw (all_apart (u ∷ stack) n.name low.0) at e) (λ x. finish_quiet visit u stack m quiet ns low.1 x v)
    where
      by_visit : (r : Walking) → visit w n.name ≡ r → and_then r (finish visit u stack m ns) ≡ Ok v → ((x : Walked) → finish visit u stack m ns x ≡ Ok v → v.notes ≡ x.notes) → v.notes ≡ w.notes
      by_visit (Err x) is g rest = absurd (let b : Err x ≡ Ok v = g in cc)
      by_visit (Ok x) is g rest = rest x g ∙ quiet w x n.name low.0 is

  falls_above : (n : List ℕ) (stack : List Open) (ts : List (List ℕ)) → AllAbove (rank n) stack → (ns : List Need) → AllByRecursion (λ (x : Need). (rank x.name < rank n) × AllByRecursion (λ (t : List ℕ). rank x.name < rank t) ts) ns
      → AllByRecursion (λ (x : Need). AllAbove (rank x.name) (record { trigger = n; targets = ts } ∷ stack)) ns
  falls_above n stack ts above [] h = tt
  falls_above n stack ts above (x ∷ xs) h = ((h.0.1, all_lower (rank x.name) (rank n) stack h.0.0 above), falls_above n stack ts above xs h.1)

  enter_quiet : (visit : List Open → Walked → List ℕ → Walking) (stack : List Open) → ((u : Open) → Quiet (visit (u ∷ stack)) (u ∷ stack)) → (n : List ℕ) → AllAbove (rank n) stack
      → (ms : List Making) → AllByRecursion (Falls n) ms → (w v : Walked) → enter visit stack n ms w ≡ Ok v → v.notes ≡ w.notes
  enter_quiet visit stack quiet n above [] falls w v e = ap (λ (x : Walked). x.notes) (let s : v ≡ w = cc in s)
  enter_quiet visit stack quiet n above (m ∷ ms) falls w v e = by_room (has_room stack w) e (λ x. enter_quiet visit stack quiet n above ms falls.1 x v)
    where
      by_unit : (r : Walking) → finish (visit (opened n m ∷ stack)) (opened n m) stack m m.needs w ≡ r → and_then r (enter visit stack n ms) ≡ Ok v → ((x : Walked) → enter visit stack n ms x ≡ Ok v → v.notes ≡ x.notes) → v.notes ≡ w.notes
      by_unit (Err x) is g rest = absurd (let b : Err x ≡ Ok v = g in cc)
      by_unit (Ok x) is g rest = rest x g ∙ finish_quiet (visit (opened n m ∷ stack)) (opened n m) stack m (quiet (opened n m)) m.needs (falls_above n stack m.targets above m.needs falls.0) w x is

      by_room : (b : Bool) → cond b (and_then (finish (visit (opened n m ∷ stack)) (opened n m) stack m m.needs w) (enter visit stack n ms)) (Err TooManyJobs) ≡ Ok v
          → ((x : Walked) → enter visit stack n ms x ≡ Ok v → v.notes ≡ x.notes) → v.notes ≡ w.notes
      by_room false g rest = absurd (let b : Err TooManyJobs ≡ Ok v = g in cc)
      by_room true g rest = by_unit (finish (visit (opened n m ∷ stack)) (opened n m) stack m m.needs w) refl g rest

  module _ (down : (known : List ℕ → Bool) (n : List ℕ) → AllByRecursion (Falls n) (says known n)) where
    left_falls : (n : List ℕ) (k : ℕ) (ms : List Making) → AllByRecursion (Falls n) ms → AllByRecursion (Falls n) (drop k ms)
    left_falls n zero ms h = h
    left_falls n (suc k) [] h = tt
    left_falls n (suc k) (m ∷ ms) h = left_falls n k ms h.1

    visit_quiet : (left : ℕ) (stack : List Open) → Quiet (visit says left stack) stack
    unfolding visit
    visit_quiet zero stack w v n above e = enter_quiet no_room stack (λ u x y q _ g. absurd (let b : Err TooManyJobs ≡ Ok y = g in cc)) n above (units_left says stack w n)
        (left_falls n (length (numbers_of w.jobs n)) (says (is_known stack w) n) (down (is_known stack w) n)) w v e
    visit_quiet (suc left) stack w v n above e = enter_quiet (visit says left) stack (λ u. visit_quiet left (u ∷ stack)) n above (units_left says stack w n)
        (left_falls n (length (numbers_of w.jobs n)) (says (is_known stack w) n) (down (is_known stack w) n)) w v e

    pub no_notes : (goals : List (List ℕ)) (w v : Walked) → visit_all says goals w ≡ Ok v → v.notes ≡ w.notes
    no_notes [] w v e = ap (λ (u : Walked). u.notes) (let s : v ≡ w = cc in s)
    no_notes (g ∷ gs) w v e = by_visit (visit says limit [] w g) refl e (λ u. no_notes gs u v)
      where
        by_visit : (r : Walking) → visit says limit [] w g ≡ r → and_then r (visit_all says gs) ≡ Ok v → ((u : Walked) → visit_all says gs u ≡ Ok v → v.notes ≡ u.notes) → v.notes ≡ w.notes
        by_visit (Err x) is h rest = absurd (let b : Err x ≡ Ok v = h in cc)
        by_visit (Ok u) is h rest = rest u h ∙ visit_quiet limit [] w u g tt is

pub without_circles : (says : Says) (rank : List ℕ → ℕ) → ((known : List ℕ → Bool) (n : List ℕ) → All (λ (m : Making). All (λ (x : Need). (rank x.name < rank n) × All (λ (t : List ℕ). rank x.name < rank t) m.targets) m.needs) (says known n))
    → (goals : List (List ℕ)) (p : Plan) → plan_for says goals ≡ Ok p → p.notes ≡ []
without_circles says rank down goals p e = no_notes says rank falls (each_once [] goals) nothing_walked (record { jobs = p.jobs; notes = p.notes }) (plan_walked says goals p e)
  where
    need_falls : (n : List ℕ) (ts : List (List ℕ)) (ns : List Need) → All (λ (x : Need). (rank x.name < rank n) × All (λ (t : List ℕ). rank x.name < rank t) ts) ns
        → AllByRecursion (λ (x : Need). (rank x.name < rank n) × AllByRecursion (λ (t : List ℕ). rank x.name < rank t) ts) ns
    need_falls n ts ns h = each_other (λ (x : Need). (rank x.name < rank n) × All (λ (t : List ℕ). rank x.name < rank t) ts) (λ (x : Need). (rank x.name < rank n) × AllByRecursion (λ (t : List ℕ). rank x.name < rank t) ts)
        (λ x l. (l.0, all_by_recursion (λ (t : List ℕ). rank x.name < rank t) ts l.1)) ns (all_by_recursion (λ (x : Need). (rank x.name < rank n) × All (λ (t : List ℕ). rank x.name < rank t) ts) ns h)

    falls : (known : List ℕ → Bool) (n : List ℕ) → AllByRecursion (Falls says rank n) (says known n)
    falls known n = each_other (λ (m : Making). All (λ (x : Need). (rank x.name < rank n) × All (λ (t : List ℕ). rank x.name < rank t) m.targets) m.needs) (Falls says rank n)
        (λ m h. need_falls n m.targets m.needs h) (says known n) (all_by_recursion (λ (m : Making). All (λ (x : Need). (rank x.name < rank n) × All (λ (t : List ℕ). rank x.name < rank t) m.targets) m.needs) (says known n) (down known n))
