-- What a walk keeps.
--     Kept says stack w v      jobs are added, each of the next unit of its trigger, and none of them has a target that is open
--     Fits says stack n i m    m is the unit of n at place i, and may be opened
--     finish_kept, unit_kept, enter_kept, visit_kept      a walk keeps this
--     rest_of                  when a unit has got its number, the name's other units are left
use Rattle.std.proofs.Common.{◌≡◌, ◌⊎◌, inl, inr, ℕ, zero, suc, ◌+◌, ◌-◌, Bool, true, false, cond, ◌||◌, List, [], ◌∷◌, ◌++◌, length, drop, Some, Ok, Err, refl, sym, ap, subst, ◌∙◌, arith, append_assoc, length-append, length-drop, slice_get}
use Rattle.std.specs.List.{AllByRecursion}
use Rattle.std.proofs.lemmas.List.{append-nil}
use Rattle.em_base.proofs.Lemmas.{by_cases}
use Rattle.em_plan.specs.declared.making.Need.{Need}
use Rattle.em_plan.specs.declared.making.Making.{Making}
use Rattle.em_plan.specs.declared.planned.PlanJob.{PlanJob}
use Rattle.em_plan.specs.declared.walk.Walked.{Walked}
use Rattle.em_plan.specs.declared.no.PlanNo.TheVariants.{TooManyJobs}
use Rattle.em_plan.specs.Once.{is_among}
use Rattle.em_plan.specs.Jobs.{numbers_of, job_of}
use Rattle.em_plan.specs.Order.{limit, Says, Walking, Open, opened, and_then, is_open, is_known, numbered, finish, enter, visit, visit_all, has_room, with_job, noted, no_room, from_in, units_left, nothing_walked}
use Rattle.em_plan.specs.Serial.{AreEach, IsNext, IsSerial}
use Rattle.em_plan.specs.Units.{IsUnits}
use Rattle.em_plan.proofs.Lists.{all_append, at_place, first_of}
use Rattle.em_plan.proofs.Numbering.{numbers_kept, numbers_last}

pub either_false : (a b : Bool) → (a || b) ≡ false → (a ≡ false) × (b ≡ false)
either_false true b h = absurd (let bad : true ≡ false = h in cc)
either_false false b h = (refl, h)

pub or_true : (b : Bool) → (b || true) ≡ true
or_true true = refl
or_true false = refl

pub not_both : (b : Bool) → b ≡ true → b ≡ false → ⊥
not_both b t f = let bad : true ≡ false = sym t ∙ f in cc

pub each_append : (Next : List PlanJob → PlanJob → Type 0) (before xs ys : List PlanJob) → AreEach Next before xs → AreEach Next (before ++ xs) ys → AreEach Next before (xs ++ ys)
each_append Next before [] ys h g = subst (λ l. AreEach Next l ys) (append-nil before) g
each_append Next before (x ∷ xs) ys h g = (h.0, each_append Next (before ++ x ∷ []) xs ys h.1 (subst (λ l. AreEach Next l ys) (sym (append_assoc before (x ∷ []) xs)) g))

nil_of : {X : Type 0} (xs : List X) → length xs ≡ 0 → xs ≡ []
nil_of [] e = refl
nil_of (x ∷ xs) e = absurd (omega (arith, e))

-- how many units there are is the same before and after
left_after : (xs ys : List Making) → (xs ≡ ys) ⊎ ((length xs ≡ 1) × (length ys ≡ 1)) → (i : ℕ) (m : Making) (ms : List Making) → drop i xs ≡ m ∷ ms → drop (i + 1) ys ≡ ms
left_after xs ys (inl is) i m ms e = (first_of ys i m ms (ap (drop i) (sym is) ∙ e)).1
left_after xs ys (inr one) i m ms e =
    let a : length (drop i xs) ≡ length xs - i = length-drop i xs in
    let b : length (drop i xs) ≡ suc (length ms) = ap length e in
    let c : length (drop (i + 1) ys) ≡ length ys - (i + 1) = length-drop (i + 1) ys in
    nil_of (drop (i + 1) ys) (omega (arith, c, one.1)) ∙ sym (nil_of ms (omega (arith, a, b, one.0)))

module _ (says : Says) where
  pub record Kept (stack : List Open) (w v : Walked) : Type 0 where
    pub more : List PlanJob
    pub jobs : v.jobs ≡ w.jobs ++ more
    pub serial : IsSerial says w.jobs more
    pub shut : (q : List ℕ) → is_open stack q ≡ true → AllByRecursion (λ (j : PlanJob). is_among j.targets q ≡ false) more

  pub kept_same : (stack : List Open) (w v : Walked) → v.jobs ≡ w.jobs → Kept stack w v
  kept_same stack w v e = record { more = []; jobs = e ∙ sym (append-nil w.jobs); serial = tt; shut = λ q there. tt }

  pub kept_both : (stack inner : List Open) (w u v : Walked) → ((q : List ℕ) → is_open stack q ≡ true → is_open inner q ≡ true) → Kept inner w u → Kept stack u v → Kept stack w v
  kept_both stack inner w u v within a b = record {
    more = a.more ++ b.more;
    jobs = b.jobs ∙ ap (λ (js : List PlanJob). js ++ b.more) a.jobs ∙ append_assoc w.jobs a.more b.more;
    serial = each_append (IsNext says) w.jobs a.more b.more a.serial (subst (λ (js : List PlanJob). IsSerial says js b.more) a.jobs b.serial);
    shut = λ q there. all_append (λ (j : PlanJob). is_among j.targets q ≡ false) a.more b.more (a.shut q (within q there)) (b.shut q there);
  }

  -- a name that is open gets no number
  pub kept_numbers : (stack : List Open) (w v : Walked) (q : List ℕ) → Kept stack w v → is_open stack q ≡ true → numbers_of v.jobs q ≡ numbers_of w.jobs q
  kept_numbers stack w v q k there = ap (λ (js : List PlanJob). numbers_of js q) k.jobs ∙ numbers_kept w.jobs k.more q (k.shut q there)

  pub record Fits (stack : List Open) (n : List ℕ) (place : ℕ) (m : Making) : Type 0 where
    pub known : List ℕ → Bool
    pub at : slice_get (says known n) place ≡ Some m
    pub own : is_among m.targets n ≡ true
    pub apart : (q : List ℕ) → is_among m.targets q ≡ true → is_open stack q ≡ false

  abbrev pub Visits : (Walked → List ℕ → Walking) → List Open → Type 0
  Visits visit stack = (w v : Walked) (n : List ℕ) → is_open stack n ≡ false → visit w n ≡ Ok v → Kept stack w v

  -- the unit's number comes behind what its prerequisites left
  pub finish_kept : (visit : Walked → List ℕ → Walking) (u : Open) (stack : List Open) (m : Making) → Visits visit (u ∷ stack) → (ns : List Need) (w v : Walked)
      → finish visit u stack m ns w ≡ Ok v → (last : Walked) × (v ≡ with_job u stack m last) × Kept (u ∷ stack) w last
  finish_kept visit u stack m h [] w v e = (w, (let s : v ≡ with_job u stack m w = cc in s), kept_same (u ∷ stack) w w refl)
  finish_kept visit u stack m h (n ∷ ns) w v e = by_open (is_open (u ∷ stack) n.name) refl e (λ x. finish_kept visit u stack m h ns x v)
    where
      Rest : Type 0
      Rest = (x : Walked) → finish visit u stack m ns x ≡ Ok v → (last : Walked) × (v ≡ with_job u stack m last) × Kept (u ∷ stack) x last

      behind : (x : Walked) → Kept (u ∷ stack) w x → (last : Walked) × (v ≡ with_job u stack m last) × Kept (u ∷ stack) x last → (last : Walked) × (v ≡ with_job u stack m last) × Kept (u ∷ stack) w last
      behind x k r = (r.0, r.1, kept_both (u ∷ stack) (u ∷ stack) w x r.0 (λ q i. i) k r.2)

      by_visit : (r : Walking) → is_open (u ∷ stack) n.name ≡ false → visit w n.name ≡ r → and_then r (finish visit u stack m ns) ≡ Ok v → Rest → (last : Walked) × (v ≡ with_job u stack m last) × Kept (u ∷ stack) w last
      by_visit (Err x) shut is g rest = absurd (let b : Err x ≡ Ok v = g in cc)
      by_visit (Ok x) shut is g rest = behind x (h w x n.name shut is) (rest x g)

      by_open : (b : Bool) → is_open (u ∷ stack) n.name ≡ b → and_then (cond b (Ok (noted u.trigger n.name w)) (visit w n.name)) (finish visit u stack m ns) ≡ Ok v → Rest → (last : Walked) × (v ≡ with_job u stack m last) × Kept (u ∷ stack) w last
      by_open true is g rest = behind (noted u.trigger n.name w) (kept_same (u ∷ stack) w (noted u.trigger n.name w) refl) (rest (noted u.trigger n.name w) g)
      by_open false isnt g rest = by_visit (visit w n.name) isnt refl g rest

  kept_job : (stack : List Open) (n : List ℕ) (m : Making) (w : Walked) → Fits stack n (length (numbers_of w.jobs n)) m → Kept stack w (with_job (opened n m) stack m w)
  kept_job stack n m w f = record {
    more = job_of (is_open (opened n m ∷ stack)) (numbers_of w.jobs) n (from_in stack) m ∷ [];
    jobs = refl;
    serial = (record { known = f.known; is_open = is_open (opened n m ∷ stack); making = m; at = f.at; is = refl }, tt);
    shut = λ q there. (by_cases (is_among m.targets q) (λ b. is_among m.targets q ≡ b → b ≡ false) (λ _ own. absurd (not_both (is_open stack q) there (f.apart q own))) (λ _ _. refl) refl, tt);
  }

  fits_there : (stack : List Open) (n : List ℕ) (i k : ℕ) (m : Making) → i ≡ k → Fits stack n i m → Fits stack n k m
  fits_there stack n i k m e f = subst (λ j. Fits stack n j m) e f

  -- a unit is opened, and gets its number
  pub unit_kept : (visit : Walked → List ℕ → Walking) (stack : List Open) (n : List ℕ) (m : Making) (place : ℕ) → Visits visit (opened n m ∷ stack) → Fits stack n place m → (w v : Walked)
      → length (numbers_of w.jobs n) ≡ place → finish visit (opened n m) stack m m.needs w ≡ Ok v → Kept stack w v × (length (numbers_of v.jobs n) ≡ place + 1)
  unit_kept visit stack n m place h f w v so_far e = (
    kept_both stack (opened n m ∷ stack) w last v (λ q there. rw there (or_true (is_among m.targets q))) done.2 (subst (λ (x : Walked). Kept stack last x) (sym done.1) (kept_job stack n m last (fits_there stack n place (length (numbers_of last.jobs n)) m (sym counted) f))),
    ap (λ (x : Walked). length (numbers_of x.jobs n)) done.1 ∙ ap length (numbers_last last.jobs (job_of (is_open (opened n m ∷ stack)) (numbers_of last.jobs) n (from_in stack) m) n)
        ∙ ap (λ b. length (numbers_of last.jobs n ++ cond b (length last.jobs ∷ []) [])) f.own ∙ length-append (numbers_of last.jobs n) (length last.jobs ∷ []) ∙ ap (λ k. k + 1) counted,
  )
    where
      done : (last : Walked) × (v ≡ with_job (opened n m) stack m last) × Kept (opened n m ∷ stack) w last
      done = finish_kept visit (opened n m) stack m h m.needs w v e

      last : Walked
      last = done.0

      counted : length (numbers_of last.jobs n) ≡ place
      counted = ap length (kept_numbers (opened n m ∷ stack) w last n done.2 (rw f.own refl)) ∙ so_far

  pub enter_kept : (visit : List Open → Walked → List ℕ → Walking) (stack : List Open) → ((u : Open) → Visits (visit (u ∷ stack)) (u ∷ stack)) → (n : List ℕ) (all : List Making)
      → ((i : ℕ) (m : Making) → slice_get all i ≡ Some m → Fits stack n i m) → (ms : List Making) (i : ℕ) (w v : Walked) → drop i all ≡ ms → length (numbers_of w.jobs n) ≡ i → enter visit stack n ms w ≡ Ok v → Kept stack w v
  enter_kept visit stack h n all fits [] i w v left so_far e = kept_same stack w v (ap (λ (x : Walked). x.jobs) (let s : v ≡ w = cc in s))
  enter_kept visit stack h n all fits (m ∷ ms) i w v left so_far e = by_room (has_room stack w) e (λ u more count. enter_kept visit stack h n all fits ms (i + 1) u v more count)
    where
      Rest : Type 0
      Rest = (u : Walked) → drop (i + 1) all ≡ ms → length (numbers_of u.jobs n) ≡ i + 1 → enter visit stack n ms u ≡ Ok v → Kept stack u v

      by_unit : (r : Walking) → finish (visit (opened n m ∷ stack)) (opened n m) stack m m.needs w ≡ r → and_then r (enter visit stack n ms) ≡ Ok v → Rest → Kept stack w v
      by_unit (Err x) is g rest = absurd (let b : Err x ≡ Ok v = g in cc)
      by_unit (Ok u) is g rest =
          let first = first_of all i m ms left in
          let unit = unit_kept (visit (opened n m ∷ stack)) stack n m i (h (opened n m)) (fits i m first.0) w u so_far is in
          kept_both stack stack w u v (λ q there. there) unit.0 (rest u first.1 unit.1 g)

      by_room : (b : Bool) → cond b (and_then (finish (visit (opened n m ∷ stack)) (opened n m) stack m m.needs w) (enter visit stack n ms)) (Err TooManyJobs) ≡ Ok v → Rest → Kept stack w v
      by_room false g rest = absurd (let b : Err TooManyJobs ≡ Ok v = g in cc)
      by_room true g rest = by_unit (finish (visit (opened n m ∷ stack)) (opened n m) stack m m.needs w) refl g rest

  module _ (facts : IsUnits says) where
    pub fits : (stack : List Open) (w : Walked) (n : List ℕ) → is_open stack n ≡ false → (i : ℕ) (m : Making) → slice_get (says (is_known stack w) n) i ≡ Some m → Fits stack n i m
    fits stack w n shut i m at = record {
      known = is_known stack w;
      at = at;
      own = at_place (λ (x : Making). is_among x.targets n ≡ true) (says (is_known stack w) n) i m (facts.own (is_known stack w) n) at;
      apart = λ q there. away q (at_place (λ (x : Making). (q : List ℕ) → is_among x.targets q ≡ true → (q ≡ n) ⊎ (is_known stack w q ≡ false)) (says (is_known stack w) n) i m (facts.new (is_known stack w) n) at q there);
    }
      where
        away : (q : List ℕ) → (q ≡ n) ⊎ (is_known stack w q ≡ false) → is_open stack q ≡ false
        away q (inl is) = ap (is_open stack) is ∙ shut
        away q (inr new) = (either_false (is_open stack q) (numbered w.jobs q) new).0

    pub visit_kept : (left : ℕ) (stack : List Open) → Visits (visit says left stack) stack
    unfolding visit
    visit_kept zero stack w v n shut e = enter_kept no_room stack (λ u x y q _ g. absurd (let b : Err TooManyJobs ≡ Ok y = g in cc)) n (says (is_known stack w) n) (fits stack w n shut)
        (units_left says stack w n) (length (numbers_of w.jobs n)) w v refl refl e
    visit_kept (suc left) stack w v n shut e = enter_kept (visit says left) stack (λ u. visit_kept left (u ∷ stack)) n (says (is_known stack w) n) (fits stack w n shut)
        (units_left says stack w n) (length (numbers_of w.jobs n)) w v refl refl e

    pub rest_of : (visit : Walked → List ℕ → Walking) (stack : List Open) (w v : Walked) (n : List ℕ) (m : Making) (ms : List Making) → Visits visit (opened n m ∷ stack) → is_open stack n ≡ false → units_left says stack w n ≡ m ∷ ms
        → finish visit (opened n m) stack m m.needs w ≡ Ok v → units_left says stack v n ≡ ms
    rest_of visit stack w v n m ms h shut some e =
        let first = first_of (says (is_known stack w) n) (length (numbers_of w.jobs n)) m ms some in
        let unit = unit_kept visit stack n m (length (numbers_of w.jobs n)) h (fits stack w n shut (length (numbers_of w.jobs n)) m first.0) w v refl e in
        ap (λ k. drop k (says (is_known stack v) n)) unit.1
        ∙ left_after (says (is_known stack w) n) (says (is_known stack v) n) (facts.alone (is_known stack w) (is_known stack v) n) (length (numbers_of w.jobs n)) m ms some

    pub goals_kept : (goals : List (List ℕ)) (w v : Walked) → visit_all says goals w ≡ Ok v → Kept [] w v
    goals_kept [] w v e = kept_same [] w v (ap (λ (u : Walked). u.jobs) (let s : v ≡ w = cc in s))
    goals_kept (g ∷ gs) w v e = by_visit (visit says limit [] w g) refl e (λ u. goals_kept gs u v)
      where
        by_visit : (r : Walking) → visit says limit [] w g ≡ r → and_then r (visit_all says gs) ≡ Ok v → ((u : Walked) → visit_all says gs u ≡ Ok v → Kept [] u v) → Kept [] w v
        by_visit (Err x) is h rest = absurd (let b : Err x ≡ Ok v = h in cc)
        by_visit (Ok u) is h rest = kept_both [] [] w u v (λ q i. i) (visit_kept limit [] w u g refl is) (rest u h)

    pub goals_serial : (goals : List (List ℕ)) (v : Walked) → visit_all says goals nothing_walked ≡ Ok v → IsSerial says [] v.jobs
    goals_serial goals v e = let k = goals_kept goals nothing_walked v e in subst (IsSerial says []) (sym k.jobs) k.serial
