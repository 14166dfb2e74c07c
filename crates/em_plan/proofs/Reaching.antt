-- The names that a walk comes to.
--     reached_only          where a set has a name and what its units have and need, it has what the walk from it numbers
--     reached_each          a walk numbers each name that is reached, where what is known makes no difference
--     too_many              a walk that ends for want of room has come to more than 65,536 units
use Rattle.std.proofs.Common.{◌≡◌, ◌⊎◌, inl, inr, ℕ, zero, suc, ◌+◌, ◌-◌, ◌<◌, ◌≤◌, Bool, true, false, cond, ◌||◌, not, nat_lt, List, [], ◌∷◌, ◌++◌, length, drop, Option, Some, None, Ok, Err, refl, sym, ap, subst, ◌∙◌, arith, length-append, slice_get}
use Rattle.std.specs.List.{All, AllByRecursion, Contains}
use Rattle.std.proofs.lemmas.Bool.{lt-ltb, le-ltb}
use Rattle.std.proofs.lemmas.Option.{slice_get_within}
use borrow.Author.Tests.{ltb-true, ltb-false}
use Rattle.em_base.proofs.Lemmas.{all_push, by_cases, same_key, own_key}
use Rattle.em_plan.specs.declared.making.Need.{Need}
use Rattle.em_plan.specs.declared.making.Making.{Making}
use Rattle.em_plan.specs.declared.planned.Plan.{Plan}
use Rattle.em_plan.specs.declared.planned.PlanJob.{PlanJob}
use Rattle.em_plan.specs.declared.walk.Walked.{Walked}
use Rattle.em_plan.specs.declared.no.PlanNo.{PlanNo}
use Rattle.em_plan.specs.declared.no.PlanNo.TheVariants.{TooManyJobs}
use Rattle.em_plan.specs.Once.{each_once, is_among, same}
use Rattle.em_plan.specs.Jobs.{numbers_of, job_of}
use Rattle.em_plan.specs.Order.{limit, Says, Walking, Open, AreApart, opened, and_then, is_open, is_known, numbered, finish, enter, visit, visit_all, has_room, with_job, noted, no_room, from_in, units_left, nothing_walked}
use Rattle.em_plan.specs.Plans.{plan_for}
use Rattle.em_plan.specs.Reached.{IsPlain, IsClosed, IsNextOpen, Overfull, Reached}
use Rattle.em_plan.specs.Serial.{IsNext, IsSerial}
use Rattle.em_plan.specs.Units.{IsUnits}
use Rattle.em_plan.proofs.Lists.{all_by_recursion, each_other, each_place, place_of, at_place, first_of}
use Rattle.em_plan.proofs.Keeping.{each_append, either_false, or_true, Fits, fits, Kept, kept_both, kept_same, kept_numbers, Visits, finish_kept, unit_kept, visit_kept, rest_of, goals_kept}
use Rattle.em_plan.proofs.Numbering.{numbers_last}
use Rattle.em_plan.proofs.Serial.{number_place, plan_walked, plan_failed}
use Rattle.em_plan.proofs.Ending.{IsDone, Completes, more_numbers, visit_done}

-- ---- a set that has what the units of its names have and need

module _ (says : Says) (set : List ℕ → Bool) where
  abbrev pub AreIn : List (List ℕ) → Type 0
  AreIn ts = AllByRecursion (λ (t : List ℕ). set t ≡ true) ts

  abbrev pub NeedsIn : List Need → Type 0
  NeedsIn ns = AllByRecursion (λ (x : Need). set x.name ≡ true) ns

  abbrev pub UnitsIn : List Making → Type 0
  UnitsIn ms = AllByRecursion (λ (m : Making). AreIn m.targets × NeedsIn m.needs) ms

  abbrev pub JobsIn : List PlanJob → Type 0
  JobsIn jobs = AllByRecursion (λ (j : PlanJob). AreIn j.targets) jobs

  abbrev pub VisitsIn : (Walked → List ℕ → Walking) → Type 0
  VisitsIn visit = (w v : Walked) (n : List ℕ) → set n ≡ true → JobsIn w.jobs → visit w n ≡ Ok v → JobsIn v.jobs

  finish_in : (visit : Walked → List ℕ → Walking) (u : Open) (stack : List Open) (m : Making) → VisitsIn visit → AreIn m.targets → (ns : List Need) (w v : Walked) → NeedsIn ns → JobsIn w.jobs → finish visit u stack m ns w ≡ Ok v → JobsIn v.jobs
  finish_in visit u stack m h targets [] w v needs jobs e =
      subst (λ (x : Walked). JobsIn x.jobs) (let s : with_job u stack m w ≡ v = cc in s) (all_push (λ (j : PlanJob). AreIn j.targets) w.jobs (job_of (is_open (u ∷ stack)) (numbers_of w.jobs) u.trigger (from_in stack) m) jobs targets)
  finish_in visit u stack m h targets (n ∷ ns) w v needs jobs e = by_open (is_open (u ∷ stack) n.name) e (λ x. finish_in visit u stack m h targets ns x v needs.1)
    where
      by_visit : (r : Walking) → visit w n.name ≡ r → and_then r (finish visit u stack m ns) ≡ Ok v → ((x : Walked) → JobsIn x.jobs → finish visit u stack m ns x ≡ Ok v → JobsIn v.jobs) → JobsIn v.jobs
      by_visit (Err x) is g rest = absurd (let b : Err x ≡ Ok v = g in cc)
      by_visit (Ok x) is g rest = rest x (h w x n.name needs.0 jobs is) g

      by_open : (b : Bool) → and_then (cond b (Ok (noted u.trigger n.name w)) (visit w n.name)) (finish visit u stack m ns) ≡ Ok v → ((x : Walked) → JobsIn x.jobs → finish visit u stack m ns x ≡ Ok v → JobsIn v.jobs) → JobsIn v.jobs
      by_open true g rest = rest (noted u.trigger n.name w) jobs g
      by_open false g rest = by_visit (visit w n.name) refl g rest

  enter_in : (visit : List Open → Walked → List ℕ → Walking) (stack : List Open) → ((u : Open) → VisitsIn (visit (u ∷ stack))) → (n : List ℕ) (ms : List Making) → UnitsIn ms → (w v : Walked) → JobsIn w.jobs → enter visit stack n ms w ≡ Ok v → JobsIn v.jobs
  enter_in visit stack h n [] units w v jobs e = subst (λ (x : Walked). JobsIn x.jobs) (let s : w ≡ v = cc in s) jobs
  enter_in visit stack h n (m ∷ ms) units w v jobs e = by_room (has_room stack w) e (λ x. enter_in visit stack h n ms units.1 x v)
    where
      by_unit : (r : Walking) → finish (visit (opened n m ∷ stack)) (opened n m) stack m m.needs w ≡ r → and_then r (enter visit stack n ms) ≡ Ok v → ((x : Walked) → JobsIn x.jobs → enter visit stack n ms x ≡ Ok v → JobsIn v.jobs) → JobsIn v.jobs
      by_unit (Err x) is g rest = absurd (let b : Err x ≡ Ok v = g in cc)
      by_unit (Ok x) is g rest = rest x (finish_in (visit (opened n m ∷ stack)) (opened n m) stack m (h (opened n m)) units.0.0 m.needs w x units.0.1 jobs is) g

      by_room : (b : Bool) → cond b (and_then (finish (visit (opened n m ∷ stack)) (opened n m) stack m m.needs w) (enter visit stack n ms)) (Err TooManyJobs) ≡ Ok v
          → ((x : Walked) → JobsIn x.jobs → enter visit stack n ms x ≡ Ok v → JobsIn v.jobs) → JobsIn v.jobs
      by_room false g rest = absurd (let b : Err TooManyJobs ≡ Ok v = g in cc)
      by_room true g rest = by_unit (finish (visit (opened n m ∷ stack)) (opened n m) stack m m.needs w) refl g rest

  left_in : (k : ℕ) (ms : List Making) → UnitsIn ms → UnitsIn (drop k ms)
  left_in zero ms h = h
  left_in (suc k) [] h = tt
  left_in (suc k) (m ∷ ms) h = left_in k ms h.1

  module _ (closed : IsClosed says set) where
    pub units_in : (known : List ℕ → Bool) (n : List ℕ) → set n ≡ true → UnitsIn (says known n)
    units_in known n h = all_by_recursion (λ (m : Making). AreIn m.targets × NeedsIn m.needs) (says known n) (each_place (λ (m : Making). AreIn m.targets × NeedsIn m.needs) (says known n) (λ i m at. (
      all_by_recursion (λ (t : List ℕ). set t ≡ true) m.targets (at_place (λ (x : Making). All (λ (t : List ℕ). set t ≡ true) x.targets) (says known n) i m (closed.targets known n h) at),
      all_by_recursion (λ (x : Need). set x.name ≡ true) m.needs (at_place (λ (x : Making). All (λ (y : Need). set y.name ≡ true) x.needs) (says known n) i m (closed.needs known n h) at),
    )))

    pub visit_in : (left : ℕ) (stack : List Open) → VisitsIn (visit says left stack)
    unfolding visit
    visit_in zero stack w v n h jobs e = enter_in no_room stack (λ u x y q _ _ g. absurd (let b : Err TooManyJobs ≡ Ok y = g in cc)) n (units_left says stack w n)
        (left_in (length (numbers_of w.jobs n)) (says (is_known stack w) n) (units_in (is_known stack w) n h)) w v jobs e
    visit_in (suc left) stack w v n h jobs e = enter_in (visit says left) stack (λ u. visit_in left (u ∷ stack)) n (units_left says stack w n)
        (left_in (length (numbers_of w.jobs n)) (says (is_known stack w) n) (units_in (is_known stack w) n h)) w v jobs e

    pub goals_in : (goals : List (List ℕ)) (w v : Walked) → AreIn goals → JobsIn w.jobs → visit_all says goals w ≡ Ok v → JobsIn v.jobs
    goals_in [] w v all jobs e = subst (λ (x : Walked). JobsIn x.jobs) (let s : w ≡ v = cc in s) jobs
    goals_in (g ∷ gs) w v all jobs e = by_visit (visit says limit [] w g) refl e (λ x. goals_in gs x v all.1)
      where
        by_visit : (r : Walking) → visit says limit [] w g ≡ r → and_then r (visit_all says gs) ≡ Ok v → ((x : Walked) → JobsIn x.jobs → visit_all says gs x ≡ Ok v → JobsIn v.jobs) → JobsIn v.jobs
        by_visit (Err x) is h rest = absurd (let b : Err x ≡ Ok v = h in cc)
        by_visit (Ok x) is h rest = rest x (visit_in limit [] w x g all.0 jobs is) h

among_in : (set : List ℕ → Bool) (ts : List (List ℕ)) (n : List ℕ) → AllByRecursion (λ (t : List ℕ). set t ≡ true) ts → is_among ts n ≡ true → set n ≡ true
among_in set [] n h e = absurd (let b : false ≡ true = e in cc)
among_in set (t ∷ ts) n h e = by_cases (same n t) (λ b. same n t ≡ b → (b || is_among ts n) ≡ true → set n ≡ true)
    (λ _ is _. ap set (same_key n t is) ∙ h.0) (λ _ _ more. among_in set ts n h.1 more) refl e

a_number : (ks : List ℕ) → nat_lt 0 (length ks) ≡ true → (k : ℕ) × Contains ks k
a_number [] e = absurd (let l : 0 < 0 = ltb-true 0 0 e in omega arith)
a_number (k ∷ ks) e = (k, (0, omega arith, refl))

pub reached_only : (says : Says) (goals : List (List ℕ)) (p : Plan) → plan_for says goals ≡ Ok p → (n : List ℕ) → numbered p.jobs n ≡ true → Reached says (each_once [] goals) n
reached_only says goals p e n there set closed all =
    let k = a_number (numbers_of p.jobs n) there in
    let d = number_place p.jobs 0 n k.0 k.1 in
    let jobs = goals_in says set closed (each_once [] goals) nothing_walked (record { jobs = p.jobs; notes = p.notes }) (all_by_recursion (λ (g : List ℕ). set g ≡ true) (each_once [] goals) all) tt (plan_walked says goals p e) in
    among_in set d.3.targets n (place_of (λ (j : PlanJob). AllByRecursion (λ (t : List ℕ). set t ≡ true) j.targets) p.jobs d.0 d.3 jobs d.4) d.5

-- ---- a walk that finds no room

module _ (says : Says) where
  -- an open unit is the next of its trigger, which is open
  abbrev IsFree : List Open → List PlanJob → Open → Type 0
  IsFree stack jobs u = IsNextOpen says jobs u × (is_open stack u.trigger ≡ true)

  record Sound (stack : List Open) (jobs : List PlanJob) : Type 0 where
    serial : IsSerial says [] jobs
    apart : AreApart stack
    free : AllByRecursion (IsFree stack jobs) stack

  free_kept : (stack : List Open) (w v : Walked) → Kept says stack w v → (us : List Open) → AllByRecursion (IsFree stack w.jobs) us → AllByRecursion (IsFree stack v.jobs) us
  free_kept stack w v k us h = each_other (IsFree stack w.jobs) (IsFree stack v.jobs) (λ u f. (
    record { known = f.0.known; making = f.0.making; at = ap (λ i. slice_get (says f.0.known u.trigger) i) (ap length (kept_numbers says stack w v u.trigger k f.1)) ∙ f.0.at; targets = f.0.targets },
    f.1,
  )) us h

  sound_kept : (stack : List Open) (w v : Walked) → Kept says stack w v → Sound stack w.jobs → Sound stack v.jobs
  sound_kept stack w v k s = record {
    serial = subst (IsSerial says []) (sym k.jobs) (each_append (IsNext says) [] w.jobs k.more s.serial k.serial);
    apart = s.apart;
    free = free_kept stack w v k stack s.free;
  }

  sound_open : (stack : List Open) (jobs : List PlanJob) (n : List ℕ) (m : Making) → Fits says stack n (length (numbers_of jobs n)) m → Sound stack jobs → Sound (opened n m ∷ stack) jobs
  sound_open stack jobs n m f s = record {
    serial = s.serial;
    apart = (f.apart, s.apart);
    free = (
      (record { known = f.known; making = m; at = f.at; targets = refl }, rw f.own refl),
      each_other (IsFree stack jobs) (IsFree (opened n m ∷ stack) jobs) (λ u g. (g.0, rw g.1 (or_true (is_among m.targets u.trigger)))) stack s.free,
    );
  }

  abbrev StackIn : (List ℕ → Bool) → List Open → Type 0
  StackIn set stack = AllByRecursion (λ (u : Open). AreIn says set u.targets) stack

  -- where the walk found no room
  record Over (stack : List Open) (jobs : List PlanJob) (Start : (List ℕ → Bool) → Type 0) : Type 0 where
    last : Walked
    inner : List Open
    name : List ℕ
    sound : Sound inner last.jobs
    full : limit ≤ length last.jobs + length inner
    shut : is_open inner name ≡ false
    left : 0 < length (units_left says inner last name)
    reached : (set : List ℕ → Bool) → IsClosed says set → StackIn set stack → JobsIn says set jobs → Start set → JobsIn says set last.jobs × StackIn set inner × (set name ≡ true)

  abbrev FailsSo : (Walked → List ℕ → Walking) → List Open → Type 0
  FailsSo visit stack = (w : Walked) (n : List ℕ) (e : PlanNo) → is_open stack n ≡ false → Sound stack w.jobs → visit w n ≡ Err e → Over stack w.jobs (λ set. set n ≡ true)

  abbrev InAll : (Walked → List ℕ → Walking) → Type 0
  InAll visit = (set : List ℕ → Bool) → IsClosed says set → VisitsIn says set visit

  finish_over : (visit : Walked → List ℕ → Walking) (u : Open) (stack : List Open) (m : Making) → Visits says visit (u ∷ stack) → InAll visit → FailsSo visit (u ∷ stack)
      → (ns : List Need) (w : Walked) (e : PlanNo) → Sound (u ∷ stack) w.jobs → finish visit u stack m ns w ≡ Err e → Over (u ∷ stack) w.jobs (λ set. NeedsIn says set ns)
  finish_over visit u stack m h inside fails [] w e s g = absurd (let b : Ok (with_job u stack m w) ≡ Err e = g in cc)
  finish_over visit u stack m h inside fails (n ∷ ns) w e s g = by_open (is_open (u ∷ stack) n.name) refl g (λ x. finish_over visit u stack m h inside fails ns x e)
    where
      Rest : Type 0
      Rest = (x : Walked) → Sound (u ∷ stack) x.jobs → finish visit u stack m ns x ≡ Err e → Over (u ∷ stack) x.jobs (λ set. NeedsIn says set ns)

      by_visit : (r : Walking) → is_open (u ∷ stack) n.name ≡ false → visit w n.name ≡ r → and_then r (finish visit u stack m ns) ≡ Err e → Rest → Over (u ∷ stack) w.jobs (λ set. NeedsIn says set (n ∷ ns))
      by_visit (Err x) shut is f rest =
          let o = fails w n.name x shut s is in
          record { last = o.last; inner = o.inner; name = o.name; sound = o.sound; full = o.full; shut = o.shut; left = o.left; reached = λ set closed names jobs needs. o.reached set closed names jobs needs.0 }
      by_visit (Ok x) shut is f rest =
          let o = rest x (sound_kept (u ∷ stack) w x (h w x n.name shut is) s) f in
          record {
            last = o.last;
            inner = o.inner;
            name = o.name;
            sound = o.sound;
            full = o.full;
            shut = o.shut;
            left = o.left;
            reached = λ set closed names jobs needs. o.reached set closed names (inside set closed w x n.name needs.0 jobs is) needs.1;
          }

      by_open : (b : Bool) → is_open (u ∷ stack) n.name ≡ b → and_then (cond b (Ok (noted u.trigger n.name w)) (visit w n.name)) (finish visit u stack m ns) ≡ Err e → Rest → Over (u ∷ stack) w.jobs (λ set. NeedsIn says set (n ∷ ns))
      by_open true is f rest =
          let o = rest (noted u.trigger n.name w) s f in
          record { last = o.last; inner = o.inner; name = o.name; sound = o.sound; full = o.full; shut = o.shut; left = o.left; reached = λ set closed names jobs needs. o.reached set closed names jobs needs.1 }
      by_open false isnt f rest = by_visit (visit w n.name) isnt refl f rest

  module _ (facts : IsUnits says) where
    enter_over : (visit : List Open → Walked → List ℕ → Walking) (stack : List Open) → ((u : Open) → Visits says (visit (u ∷ stack)) (u ∷ stack)) → ((u : Open) → InAll (visit (u ∷ stack))) → (length stack < limit → (u : Open) → FailsSo (visit (u ∷ stack)) (u ∷ stack))
        → (n : List ℕ) → is_open stack n ≡ false → (ms : List Making) (w : Walked) (e : PlanNo) → units_left says stack w n ≡ ms → Sound stack w.jobs → enter visit stack n ms w ≡ Err e → Over stack w.jobs (λ set. set n ≡ true)
    enter_over visit stack h inside fails n shut [] w e left s g = absurd (let b : Ok w ≡ Err e = g in cc)
    enter_over visit stack h inside fails n shut (m ∷ ms) w e left s g = by_room (has_room stack w) refl g (λ x. enter_over visit stack h inside fails n shut ms x e)
      where
        Rest : Type 0
        Rest = (x : Walked) → units_left says stack x n ≡ ms → Sound stack x.jobs → enter visit stack n ms x ≡ Err e → Over stack x.jobs (λ set. set n ≡ true)

        place : slice_get (says (is_known stack w) n) (length (numbers_of w.jobs n)) ≡ Some m
        place = (first_of (says (is_known stack w) n) (length (numbers_of w.jobs n)) m ms left).0

        unit : Fits says stack n (length (numbers_of w.jobs n)) m
        unit = fits says facts stack w n shut (length (numbers_of w.jobs n)) m place

        unit_in : (set : List ℕ → Bool) → IsClosed says set → set n ≡ true → AreIn says set m.targets × NeedsIn says set m.needs
        unit_in set closed in_n = place_of (λ (x : Making). AreIn says set x.targets × NeedsIn says set x.needs) (says (is_known stack w) n) (length (numbers_of w.jobs n)) m (units_in says set closed (is_known stack w) n in_n) place

        by_unit : (r : Walking) → has_room stack w ≡ true → finish (visit (opened n m ∷ stack)) (opened n m) stack m m.needs w ≡ r → and_then r (enter visit stack n ms) ≡ Err e → Rest → Over stack w.jobs (λ set. set n ≡ true)
        by_unit (Err x) free is f rest =
            let low : length w.jobs + length stack < limit = ltb-true _ _ free in
            let o = finish_over (visit (opened n m ∷ stack)) (opened n m) stack m (h (opened n m)) (inside (opened n m)) (fails (omega (arith, low)) (opened n m)) m.needs w x (sound_open stack w.jobs n m unit s) is in
            record {
              last = o.last;
              inner = o.inner;
              name = o.name;
              sound = o.sound;
              full = o.full;
              shut = o.shut;
              left = o.left;
              reached = λ set closed names jobs in_n. let us = unit_in set closed in_n in o.reached set closed (us.0, names) jobs us.1;
            }
        by_unit (Ok x) free is f rest =
            let k = unit_kept says (visit (opened n m ∷ stack)) stack n m (length (numbers_of w.jobs n)) (h (opened n m)) unit w x refl is in
            let o = rest x (rest_of says facts (visit (opened n m ∷ stack)) stack w x n m ms (h (opened n m)) shut left is) (sound_kept stack w x k.0 s) f in
            record {
              last = o.last;
              inner = o.inner;
              name = o.name;
              sound = o.sound;
              full = o.full;
              shut = o.shut;
              left = o.left;
              reached = λ set closed names jobs in_n. let us = unit_in set closed in_n in
                  o.reached set closed names (finish_in says set (visit (opened n m ∷ stack)) (opened n m) stack m (inside (opened n m) set closed) us.0 m.needs w x us.1 jobs is) in_n;
            }

        by_room : (b : Bool) → has_room stack w ≡ b → cond b (and_then (finish (visit (opened n m ∷ stack)) (opened n m) stack m m.needs w) (enter visit stack n ms)) (Err TooManyJobs) ≡ Err e → Rest → Over stack w.jobs (λ set. set n ≡ true)
        by_room false none f rest = record {
          last = w;
          inner = stack;
          name = n;
          sound = s;
          full = ltb-false _ _ none;
          shut = shut;
          left = subst (λ (us : List Making). 0 < length us) (sym left) (omega arith);
          reached = λ set closed names jobs in_n. (jobs, names, in_n);
        }
        by_room true free f rest = by_unit (finish (visit (opened n m ∷ stack)) (opened n m) stack m m.needs w) free refl f rest

    visit_over : (left : ℕ) (stack : List Open) → limit ≤ length stack + left → FailsSo (visit says left stack) stack
    unfolding visit
    visit_over zero stack enough w n e shut s g = enter_over no_room stack (λ u x y q _ f. absurd (let b : Err TooManyJobs ≡ Ok y = f in cc)) (λ u set closed x y q _ _ f. absurd (let b : Err TooManyJobs ≡ Ok y = f in cc))
        (λ low u. absurd (omega (arith, low, enough))) n shut (units_left says stack w n) w e refl s g
    visit_over (suc left) stack enough w n e shut s g = enter_over (visit says left) stack (λ u. visit_kept says facts left (u ∷ stack)) (λ u set closed. visit_in says set closed left (u ∷ stack))
        (λ low u. visit_over left (u ∷ stack) (omega (arith, enough))) n shut (units_left says stack w n) w e refl s g

    goals_over : (goals : List (List ℕ)) (w : Walked) (e : PlanNo) → Sound [] w.jobs → visit_all says goals w ≡ Err e → Over [] w.jobs (λ set. AreIn says set goals)
    goals_over [] w e s g = absurd (let b : Ok w ≡ Err e = g in cc)
    goals_over (g ∷ gs) w e s f = by_visit (visit says limit [] w g) refl f (λ x. goals_over gs x e)
      where
        by_visit : (r : Walking) → visit says limit [] w g ≡ r → and_then r (visit_all says gs) ≡ Err e
            → ((x : Walked) → Sound [] x.jobs → visit_all says gs x ≡ Err e → Over [] x.jobs (λ set. AreIn says set gs)) → Over [] w.jobs (λ set. AreIn says set (g ∷ gs))
        by_visit (Err x) is h rest =
            let o = visit_over limit [] (omega arith) w g x refl s is in
            record { last = o.last; inner = o.inner; name = o.name; sound = o.sound; full = o.full; shut = o.shut; left = o.left; reached = λ set closed names jobs all. o.reached set closed names jobs all.0 }
        by_visit (Ok x) is h rest =
            let o = rest x (sound_kept [] w x (visit_kept says facts limit [] w x g refl is) s) h in
            record {
              last = o.last;
              inner = o.inner;
              name = o.name;
              sound = o.sound;
              full = o.full;
              shut = o.shut;
              left = o.left;
              reached = λ set closed names jobs all. o.reached set closed names (visit_in says set closed limit [] w x g all.0 jobs is) all.1;
            }

    none_sound : Sound [] []
    none_sound = record { serial = tt; apart = tt; free = tt }

    targets_at : {X : Type 0} (set : List ℕ → Bool) (targets : X → List (List ℕ)) (xs : List X) (i : ℕ) (x : X) (j : ℕ) (t : List ℕ) → AllByRecursion (λ (y : X). AreIn says set (targets y)) xs → slice_get xs i ≡ Some x → slice_get (targets x) j ≡ Some t → set t ≡ true
    targets_at set targets xs i x j t h at own = place_of (λ (q : List ℕ). set q ≡ true) (targets x) j t (place_of (λ y. AreIn says set (targets y)) xs i x h at) own

    pub too_many : (goals : List (List ℕ)) → plan_for says goals ≡ Err TooManyJobs → Overfull says (Reached says (each_once [] goals))
    too_many goals e =
        let o = goals_over (each_once [] goals) nothing_walked TooManyJobs none_sound (plan_failed says goals e) in
        let in_goals = λ (set : List ℕ → Bool) (all : All (λ (g : List ℕ). set g ≡ true) (each_once [] goals)). all_by_recursion (λ (g : List ℕ). set g ≡ true) (each_once [] goals) all in
        record {
          walked = o.last;
          stack = o.inner;
          name = o.name;
          serial = o.sound.serial;
          apart = o.sound.apart;
          next = each_place (IsNextOpen says o.last.jobs) o.inner (λ i u at. (place_of (IsFree o.inner o.last.jobs) o.inner i u o.sound.free at).0);
          full = o.full;
          shut = o.shut;
          left = o.left;
          jobs_so = each_place (λ (j : PlanJob). All (Reached says (each_once [] goals)) j.targets) o.last.jobs (λ i j at. each_place (Reached says (each_once [] goals)) j.targets
              (λ k t own set closed all. targets_at set (λ (x : PlanJob). x.targets) o.last.jobs i j k t (o.reached set closed tt tt (in_goals set all)).0 at own));
          stack_so = each_place (λ (u : Open). All (Reached says (each_once [] goals)) u.targets) o.inner (λ i u at. each_place (Reached says (each_once [] goals)) u.targets
              (λ k t own set closed all. targets_at set (λ (x : Open). x.targets) o.inner i u k t (o.reached set closed tt tt (in_goals set all)).1 at own));
          name_so = λ set closed all. (o.reached set closed tt tt (in_goals set all)).2;
        }

among_at : (ts : List (List ℕ)) (k : ℕ) (q : List ℕ) → slice_get ts k ≡ Some q → is_among ts q ≡ true
among_at [] zero q e = absurd (let b : None ≡ Some q = e in cc)
among_at [] (suc k) q e = absurd (let b : None ≡ Some q = e in cc)
among_at (t ∷ ts) zero q e = let s : t ≡ q = cc in let own : same q t ≡ true = ap (same q) s ∙ own_key q in rw own refl
among_at (t ∷ ts) (suc k) q e = rw (among_at ts k q e) (or_true (same q t))

-- ---- each name that is reached, where what is known makes no difference

module _ (says : Says) (facts : IsUnits says) (plain : IsPlain says) where
  abbrev units : List ℕ → List Making
  units n = says (λ _. false) n

  abbrev Done : List PlanJob → List ℕ → Type 0
  Done jobs x = length (units x) ≤ length (numbers_of jobs x)

  -- it is open, or each of its units has a number
  abbrev IsMet : (List ℕ → Bool) → List PlanJob → List ℕ → Type 0
  IsMet o jobs x = (o x ≡ true) ⊎ Done jobs x

  abbrev AreMet : (List ℕ → Bool) → List PlanJob → List Need → Type 0
  AreMet o jobs ns = AllByRecursion (λ (x : Need). IsMet o jobs x.name) ns

  -- so is each prerequisite of each unit that has a number
  abbrev IsCovered : (List ℕ → Bool) → List PlanJob → Type 0
  IsCovered o jobs = (q : List ℕ) (i : ℕ) (m : Making) → slice_get (units q) i ≡ Some m → i < length (numbers_of jobs q) → AreMet o jobs m.needs

  done_more : (jobs more : List PlanJob) (x : List ℕ) → Done jobs x → Done (jobs ++ more) x
  done_more jobs more x done = let l = more_numbers says facts jobs more x in omega (arith, l, done)

  met_more : (o : List ℕ → Bool) (jobs more : List PlanJob) (ns : List Need) → AreMet o jobs ns → AreMet o (jobs ++ more) ns
  met_more o jobs more ns h = each_other (λ (x : Need). IsMet o jobs x.name) (λ (x : Need). IsMet o (jobs ++ more) x.name) (λ x m. elim m [ inl there ↦ inl there | inr done ↦ inr (done_more jobs more x.name done) ]) ns h

  met_wider : (o p : List ℕ → Bool) (jobs : List PlanJob) → ((x : List ℕ) → o x ≡ true → IsMet p jobs x) → (ns : List Need) → AreMet o jobs ns → AreMet p jobs ns
  met_wider o p jobs w ns h = each_other (λ (x : Need). IsMet o jobs x.name) (λ (x : Need). IsMet p jobs x.name) (λ x m. elim m [ inl there ↦ w x.name there | inr done ↦ inr done ]) ns h

  wider : (o p : List ℕ → Bool) (jobs : List PlanJob) → ((x : List ℕ) → o x ≡ true → IsMet p jobs x) → IsCovered o jobs → IsCovered p jobs
  wider o p jobs w c q i m at low = met_wider o p jobs w m.needs (c q i m at low)

  -- without what is known a unit makes its name alone
  own_only : (known : List ℕ → Bool) (n : List ℕ) (i : ℕ) (m : Making) → slice_get (says known n) i ≡ Some m → (q : List ℕ) → is_among m.targets q ≡ true → q ≡ n
  own_only known n i m at q there = elim (at_place (λ (x : Making). (q : List ℕ) → is_among x.targets q ≡ true → (q ≡ n) ⊎ (true ≡ false)) (says (λ _. true) n) i m (facts.new (λ _. true) n)
      (ap (λ (ms : List Making). slice_get ms i) (plain (λ _. true) known n) ∙ at) q there) [ inl is ↦ is | inr bad ↦ absurd (let b : true ≡ false = bad in cc) ]

  abbrev KeepsCovered : (Walked → List ℕ → Walking) → List Open → Type 0
  KeepsCovered visit stack = (w v : Walked) (n : List ℕ) → is_open stack n ≡ false → IsCovered (is_open stack) w.jobs → visit w n ≡ Ok v → IsCovered (is_open stack) v.jobs

  record Covered (u : Open) (stack : List Open) (m : Making) (ns : List Need) (w v : Walked) : Type 0 where
    last : Walked
    is : v ≡ with_job u stack m last
    kept : Kept says (u ∷ stack) w last
    met : AreMet (is_open (u ∷ stack)) last.jobs ns
    covered : IsCovered (is_open (u ∷ stack)) last.jobs

  done_there : (stack : List Open) (w : Walked) (n : List ℕ) → IsDone says facts stack w n → Done w.jobs n
  done_there stack w n done = let e : length (units n) ≡ length (says (is_known stack w) n) = ap length (plain (λ _. false) (is_known stack w) n) in omega (arith, e, done)

  finish_covers : (visit : Walked → List ℕ → Walking) (u : Open) (stack : List Open) (m : Making) → Visits says visit (u ∷ stack) → Completes says facts visit (u ∷ stack) → KeepsCovered visit (u ∷ stack)
      → (ns : List Need) (w v : Walked) → IsCovered (is_open (u ∷ stack)) w.jobs → finish visit u stack m ns w ≡ Ok v → Covered u stack m ns w v
  finish_covers visit u stack m h c k [] w v cov e = record { last = w; is = (let s : v ≡ with_job u stack m w = cc in s); kept = kept_same says (u ∷ stack) w w refl; met = tt; covered = cov }
  finish_covers visit u stack m h c k (n ∷ ns) w v cov e = by_open (is_open (u ∷ stack) n.name) refl e (λ x. finish_covers visit u stack m h c k ns x v)
    where
      Rest : Type 0
      Rest = (x : Walked) → IsCovered (is_open (u ∷ stack)) x.jobs → finish visit u stack m ns x ≡ Ok v → Covered u stack m ns x v

      behind : (x : Walked) → Kept says (u ∷ stack) w x → IsMet (is_open (u ∷ stack)) x.jobs n.name → Covered u stack m ns x v → Covered u stack m (n ∷ ns) w v
      behind x first this r = record {
        last = r.last;
        is = r.is;
        kept = kept_both says (u ∷ stack) (u ∷ stack) w x r.last (λ q there. there) first r.kept;
        met = (subst (λ (js : List PlanJob). IsMet (is_open (u ∷ stack)) js n.name) (sym r.kept.jobs) (elim this [ inl there ↦ inl there | inr done ↦ inr (done_more x.jobs r.kept.more n.name done) ]), r.met);
        covered = r.covered;
      }

      by_visit : (r : Walking) → is_open (u ∷ stack) n.name ≡ false → visit w n.name ≡ r → and_then r (finish visit u stack m ns) ≡ Ok v → Rest → Covered u stack m (n ∷ ns) w v
      by_visit (Err x) shut is g rest = absurd (let b : Err x ≡ Ok v = g in cc)
      by_visit (Ok x) shut is g rest = behind x (h w x n.name shut is) (inr (done_there (u ∷ stack) x n.name (c w x n.name shut is))) (rest x (k w x n.name shut cov is) g)

      by_open : (b : Bool) → is_open (u ∷ stack) n.name ≡ b → and_then (cond b (Ok (noted u.trigger n.name w)) (visit w n.name)) (finish visit u stack m ns) ≡ Ok v → Rest → Covered u stack m (n ∷ ns) w v
      by_open true is g rest = behind (noted u.trigger n.name w) (kept_same says (u ∷ stack) w (noted u.trigger n.name w) refl) (inl is) (rest (noted u.trigger n.name w) cov g)
      by_open false isnt g rest = by_visit (visit w n.name) isnt refl g rest

  -- one unit more has a number
  covers_one : (o : List ℕ → Bool) (jobs : List PlanJob) (job : PlanJob) (n : List ℕ) (m : Making) → ((q : List ℕ) → is_among job.targets q ≡ true → q ≡ n) → slice_get (units n) (length (numbers_of jobs n)) ≡ Some m
      → IsCovered o jobs → AreMet o jobs m.needs → IsCovered o (jobs ++ job ∷ [])
  covers_one o jobs job n m only at cov met q i x place low = by_own (is_among job.targets q) refl (rw (numbers_last jobs job q) at low)
    where
      later : i < length (numbers_of jobs q) → AreMet o (jobs ++ job ∷ []) x.needs
      later l = met_more o jobs (job ∷ []) x.needs (cov q i x place l)

      last_one : q ≡ n → i ≡ length (numbers_of jobs q) → AreMet o (jobs ++ job ∷ []) x.needs
      last_one is e =
          let same_place : slice_get (units n) (length (numbers_of jobs n)) ≡ Some x = subst (λ (t : List ℕ). slice_get (units t) (length (numbers_of jobs t)) ≡ Some x) is (subst (λ k. slice_get (units q) k ≡ Some x) e place) in
          let this : m ≡ x = (let b : Some m ≡ Some x = sym at ∙ same_place in cc) in
          subst (λ (y : Making). AreMet o (jobs ++ job ∷ []) y.needs) this (met_more o jobs (job ∷ []) m.needs met)

      by_own : (b : Bool) → is_among job.targets q ≡ b → i < length (numbers_of jobs q ++ cond b (length jobs ∷ []) []) → AreMet o (jobs ++ job ∷ []) x.needs
      by_own false isnt l = later (let nothing : List ℕ = [] in let e = length-append (numbers_of jobs q) nothing in omega (arith, l, e))
      by_own true is l = by_cases (nat_lt i (length (numbers_of jobs q))) (λ b. nat_lt i (length (numbers_of jobs q)) ≡ b → AreMet o (jobs ++ job ∷ []) x.needs)
          (λ _ less. later (ltb-true _ _ less))
          (λ _ none. last_one (only q is) (let e = length-append (numbers_of jobs q) (length jobs ∷ []) in let f : length (numbers_of jobs q) ≤ i = ltb-false _ _ none in omega (arith, l, e, f))) refl

  abbrev beside : List Open → List ℕ → List ℕ → Bool
  beside stack n x = same x n || is_open stack x

  enter_covers : (visit : List Open → Walked → List ℕ → Walking) (stack : List Open) → ((u : Open) → Visits says (visit (u ∷ stack)) (u ∷ stack)) → ((u : Open) → Completes says facts (visit (u ∷ stack)) (u ∷ stack)) → ((u : Open) → KeepsCovered (visit (u ∷ stack)) (u ∷ stack))
      → (n : List ℕ) → is_open stack n ≡ false → (ms : List Making) (w v : Walked) → units_left says stack w n ≡ ms → IsCovered (beside stack n) w.jobs → enter visit stack n ms w ≡ Ok v → IsCovered (beside stack n) v.jobs
  enter_covers visit stack h c k n shut [] w v left cov e = subst (λ (x : Walked). IsCovered (beside stack n) x.jobs) (let s : w ≡ v = cc in s) cov
  enter_covers visit stack h c k n shut (m ∷ ms) w v left cov e = by_room (has_room stack w) e (λ x. enter_covers visit stack h c k n shut ms x v)
    where
      Rest : Type 0
      Rest = (x : Walked) → units_left says stack x n ≡ ms → IsCovered (beside stack n) x.jobs → enter visit stack n ms x ≡ Ok v → IsCovered (beside stack n) v.jobs

      place : slice_get (says (is_known stack w) n) (length (numbers_of w.jobs n)) ≡ Some m
      place = (first_of (says (is_known stack w) n) (length (numbers_of w.jobs n)) m ms left).0

      unit : Fits says stack n (length (numbers_of w.jobs n)) m
      unit = fits says facts stack w n shut (length (numbers_of w.jobs n)) m place

      only : (q : List ℕ) → is_among m.targets q ≡ true → q ≡ n
      only = own_only (is_known stack w) n (length (numbers_of w.jobs n)) m place

      into : (x : List ℕ) → beside stack n x ≡ true → is_open (opened n m ∷ stack) x ≡ true
      into x b = by_cases (same x n) (λ t. same x n ≡ t → (t || is_open stack x) ≡ true → (is_among m.targets x || is_open stack x) ≡ true)
          (λ _ is _. rw (same_key x n is, unit.own) refl)
          (λ _ _ more. rw more (or_true (is_among m.targets x))) refl b

      out : (x : List ℕ) → is_open (opened n m ∷ stack) x ≡ true → beside stack n x ≡ true
      out x b = by_cases (is_among m.targets x) (λ t. is_among m.targets x ≡ t → (t || is_open stack x) ≡ true → (same x n || is_open stack x) ≡ true)
          (λ _ is _. let s : same x n ≡ true = ap (λ (y : List ℕ). same y n) (only x is) ∙ own_key n in rw s refl)
          (λ _ _ more. rw more (or_true (same x n))) refl b

      unit_covered : (x : Walked) → finish (visit (opened n m ∷ stack)) (opened n m) stack m m.needs w ≡ Ok x → IsCovered (beside stack n) x.jobs
      unit_covered x e =
          let f = finish_covers (visit (opened n m ∷ stack)) (opened n m) stack m (h (opened n m)) (c (opened n m)) (k (opened n m)) m.needs w x (wider (beside stack n) (is_open (opened n m ∷ stack)) w.jobs (λ q b. inl (into q b)) cov) e in
          let counted : length (numbers_of f.last.jobs n) ≡ length (numbers_of w.jobs n) = ap length (kept_numbers says (opened n m ∷ stack) w f.last n f.kept (rw unit.own refl)) in
          let job = job_of (is_open (opened n m ∷ stack)) (numbers_of f.last.jobs) n (from_in stack) m in
          subst (λ (y : Walked). IsCovered (beside stack n) y.jobs) (sym f.is) (wider (is_open (opened n m ∷ stack)) (beside stack n) (f.last.jobs ++ job ∷ []) (λ q b. inl (out q b))
          (covers_one (is_open (opened n m ∷ stack)) f.last.jobs job n m only (ap (λ j. slice_get (units n) j) counted ∙ ap (λ (us : List Making). slice_get us (length (numbers_of w.jobs n))) (plain (λ _. false) (is_known stack w) n) ∙ place) f.covered f.met))

      by_unit : (r : Walking) → finish (visit (opened n m ∷ stack)) (opened n m) stack m m.needs w ≡ r → and_then r (enter visit stack n ms) ≡ Ok v → Rest → IsCovered (beside stack n) v.jobs
      by_unit (Err x) is g rest = absurd (let b : Err x ≡ Ok v = g in cc)
      by_unit (Ok x) is g rest = rest x (rest_of says facts (visit (opened n m ∷ stack)) stack w x n m ms (h (opened n m)) shut left is) (unit_covered x is) g

      by_room : (b : Bool) → cond b (and_then (finish (visit (opened n m ∷ stack)) (opened n m) stack m m.needs w) (enter visit stack n ms)) (Err TooManyJobs) ≡ Ok v → Rest → IsCovered (beside stack n) v.jobs
      by_room false g rest = absurd (let b : Err TooManyJobs ≡ Ok v = g in cc)
      by_room true g rest = by_unit (finish (visit (opened n m ∷ stack)) (opened n m) stack m m.needs w) refl g rest

  -- at the end the name itself is done
  narrower : (stack : List Open) (n : List ℕ) (w v : Walked) → IsDone says facts stack v n → IsCovered (beside stack n) v.jobs → IsCovered (is_open stack) v.jobs
  narrower stack n w v done cov = wider (beside stack n) (is_open stack) v.jobs (λ x b. by_cases (same x n) (λ t. same x n ≡ t → (t || is_open stack x) ≡ true → IsMet (is_open stack) v.jobs x)
      (λ _ is _. inr (subst (λ (y : List ℕ). Done v.jobs y) (sym (same_key x n is)) (done_there stack v n done))) (λ _ _ more. inl more) refl b) cov

  visit_covers : (left : ℕ) (stack : List Open) → KeepsCovered (visit says left stack) stack
  unfolding visit
  visit_covers zero stack w v n shut cov e = narrower stack n w v (visit_done says facts zero stack w v n shut e)
      (enter_covers no_room stack (λ u x y q _ g. absurd (let b : Err TooManyJobs ≡ Ok y = g in cc)) (λ u x y q _ g. absurd (let b : Err TooManyJobs ≡ Ok y = g in cc)) (λ u x y q _ _ g. absurd (let b : Err TooManyJobs ≡ Ok y = g in cc))
      n shut (units_left says stack w n) w v refl (wider (is_open stack) (beside stack n) w.jobs (λ x b. inl (rw b (or_true (same x n)))) cov) e)
  visit_covers (suc left) stack w v n shut cov e = narrower stack n w v (visit_done says facts (suc left) stack w v n shut e)
      (enter_covers (visit says left) stack (λ u. visit_kept says facts left (u ∷ stack)) (λ u. visit_done says facts left (u ∷ stack)) (λ u. visit_covers left (u ∷ stack))
      n shut (units_left says stack w n) w v refl (wider (is_open stack) (beside stack n) w.jobs (λ x b. inl (rw b (or_true (same x n)))) cov) e)

  goals_cover : (goals : List (List ℕ)) (w v : Walked) → IsCovered (is_open []) w.jobs → visit_all says goals w ≡ Ok v → IsCovered (is_open []) v.jobs × AllByRecursion (λ (g : List ℕ). Done v.jobs g) goals
  goals_cover [] w v cov e = (subst (λ (x : Walked). IsCovered (is_open []) x.jobs) (let s : w ≡ v = cc in s) cov, tt)
  goals_cover (g ∷ gs) w v cov e = by_visit (visit says limit [] w g) refl e (λ x. goals_cover gs x v)
    where
      by_visit : (r : Walking) → visit says limit [] w g ≡ r → and_then r (visit_all says gs) ≡ Ok v
          → ((x : Walked) → IsCovered (is_open []) x.jobs → visit_all says gs x ≡ Ok v → IsCovered (is_open []) v.jobs × AllByRecursion (λ (q : List ℕ). Done v.jobs q) gs)
          → IsCovered (is_open []) v.jobs × AllByRecursion (λ (q : List ℕ). Done v.jobs q) (g ∷ gs)
      by_visit (Err x) is h rest = absurd (let b : Err x ≡ Ok v = h in cc)
      by_visit (Ok x) is h rest =
          let behind = rest x (visit_covers limit [] w x g refl cov is) h in
          let k = goals_kept says facts gs x v h in
          (behind.0, (subst (λ (js : List PlanJob). Done js g) (sym k.jobs) (done_more x.jobs k.more g (done_there [] x g (visit_done says facts limit [] w x g refl is))), behind.1))

  nothing_covered : IsCovered (is_open []) []
  nothing_covered q i m at low = absurd (omega (arith, low))

  abbrev is_done : List PlanJob → List ℕ → Bool
  is_done jobs x = not (nat_lt (length (numbers_of jobs x)) (length (units x)))

  not_true : (b : Bool) → not b ≡ true → b ≡ false
  not_true true h = absurd (let bad : false ≡ true = h in cc)
  not_true false h = refl

  told : (jobs : List PlanJob) (x : List ℕ) → is_done jobs x ≡ true → Done jobs x
  told jobs x t = ltb-false (length (numbers_of jobs x)) (length (units x)) (not_true (nat_lt (length (numbers_of jobs x)) (length (units x))) t)

  tells : (jobs : List PlanJob) (x : List ℕ) → Done jobs x → is_done jobs x ≡ true
  tells jobs x d = ap not (le-ltb (length (numbers_of jobs x)) (length (units x)) d)

  pub reached_each : (goals : List (List ℕ)) (p : Plan) → plan_for says goals ≡ Ok p → (n : List ℕ) → Reached says (each_once [] goals) n → numbered p.jobs n ≡ true
  reached_each goals p e n r = some_number (told p.jobs n (r (is_done p.jobs) closed (each_place (λ (g : List ℕ). is_done p.jobs g ≡ true) (each_once [] goals) (λ i g at. tells p.jobs g (place_of (λ (q : List ℕ). Done p.jobs q) (each_once [] goals) i g end.1 at)))))
    where
      end : IsCovered (is_open []) p.jobs × AllByRecursion (λ (g : List ℕ). Done p.jobs g) (each_once [] goals)
      end = goals_cover (each_once [] goals) nothing_walked (record { jobs = p.jobs; notes = p.notes }) nothing_covered (plan_walked says goals p e)

      some_number : Done p.jobs n → numbered p.jobs n ≡ true
      some_number d = lt-ltb 0 (length (numbers_of p.jobs n)) (let l : 0 < length (units n) = facts.some (λ _. false) n in omega (arith, l, d))

      needs_done : (x : List ℕ) → is_done p.jobs x ≡ true → (i : ℕ) (m : Making) → slice_get (units x) i ≡ Some m → AllByRecursion (λ (y : Need). is_done p.jobs y.name ≡ true) m.needs
      needs_done x t i m at = each_other (λ (y : Need). IsMet (is_open []) p.jobs y.name) (λ (y : Need). is_done p.jobs y.name ≡ true)
          (λ y met. elim met [ inl bad ↦ absurd (let b : false ≡ true = bad in cc) | inr done ↦ tells p.jobs y.name done ]) m.needs
          (end.0 x i m at (let l : i < length (units x) = slice_get_within (units x) i m at in let d = told p.jobs x t in omega (arith, l, d)))

      closed : IsClosed says (is_done p.jobs)
      closed = record {
        targets = λ known x t. each_place (λ (m : Making). All (λ (q : List ℕ). is_done p.jobs q ≡ true) m.targets) (says known x) (λ i m at. each_place (λ (q : List ℕ). is_done p.jobs q ≡ true) m.targets (λ k q own.
            ap (is_done p.jobs) (own_only known x i m at q (among_at m.targets k q own)) ∙ t));
        needs = λ known x t. each_place (λ (m : Making). All (λ (y : Need). is_done p.jobs y.name ≡ true) m.needs) (says known x) (λ i m at. each_place (λ (y : Need). is_done p.jobs y.name ≡ true) m.needs (λ k y own.
            place_of (λ (z : Need). is_done p.jobs z.name ≡ true) m.needs k y (needs_done x t i m (ap (λ (ms : List Making). slice_get ms i) (plain (λ _. false) known x) ∙ at)) own));
      }
