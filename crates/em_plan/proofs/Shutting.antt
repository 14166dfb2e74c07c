-- What a walk by questions keeps, whatever is answered.
--     Shut stack w v       a name that is open has the same jobs
--     Fits stack n m       the unit has the name n as a target, and none that is open
--     AreUnits units       what the units of names keep to
--     finishing_kept, unit_kept, entering_kept, visiting_kept      a walk keeps this
use Rattle.std.proofs.Common.{◌≡◌, ◌⊎◌, inl, inr, ℕ, zero, suc, ◌+◌, Bool, true, false, cond, List, [], ◌∷◌, ◌++◌, length, Ok, Err, refl, ap, ◌∙◌, length-append}
use Rattle.std.specs.List.{AllByRecursion}
use Rattle.std.specs.Prelude.{IfOk}
use Rattle.std.proofs.lemmas.List.{append-nil}
use Rattle.em_base.proofs.Lemmas.{by_cases}
use Rattle.em_implicit.specs.Asking.{Asking, Had}
use Rattle.em_plan.specs.declared.making.Need.{Need}
use Rattle.em_plan.specs.declared.making.Making.{Making}
use Rattle.em_plan.specs.declared.walk.Walked.{Walked}
use Rattle.em_plan.specs.declared.no.PlanNo.TheVariants.{TooManyJobs}
use Rattle.em_plan.specs.Once.{is_among}
use Rattle.em_plan.specs.Jobs.{numbers_of, job_of}
use Rattle.em_plan.specs.Order.{Walking, Open, opened, is_open, is_known, numbered, has_room, with_job, noted, from_in}
use Rattle.em_plan.specs.Walking.{Units, walked_then, meeting, finishing, entering, no_visit, units_asked, visiting}
use Rattle.em_plan.proofs.Keeping.{either_false, or_true, not_both}
use Rattle.em_plan.proofs.Leaves.{Each, each_so, each_then, Ends, ends_walked, ends_so}
use Rattle.em_plan.proofs.Numbering.{numbers_last}
use Rattle.em_plan.proofs.Lists.{each_other}
use Rattle.em_plan.proofs.Saying.{Keeps}

-- whatever is answered: a unit's targets hold its name, and else none that is known; when a unit of a name has got its number,
-- no question is asked for the name's other units
pub record AreUnits (units : Units) : Type 0 where
  pub keeps : (known : List ℕ → Bool) (n : List ℕ) (place : ℕ) → Each (AllByRecursion (Keeps known n)) (units known n place)
  pub next : (known other : List ℕ → Bool) (n : List ℕ) (place : ℕ) (m : Making) (rest : List Making) → Each (λ (ms : List Making). ms ≡ m ∷ rest → units other n (place + 1) ≡ Had rest) (units known n place)

abbrev pub Shut : List Open → Walked → Walked → Type 0
Shut stack w v = (q : List ℕ) → is_open stack q ≡ true → numbers_of v.jobs q ≡ numbers_of w.jobs q

pub record Fits (stack : List Open) (n : List ℕ) (m : Making) : Type 0 where
  pub own : is_among m.targets n ≡ true
  pub apart : (q : List ℕ) → is_among m.targets q ≡ true → is_open stack q ≡ false

abbrev pub Visits : (Walked → List ℕ → Asking Walking) → List Open → Type 0
Visits visit stack = (w : Walked) (n : List ℕ) → is_open stack n ≡ false → Ends (Shut stack w) (visit w n)

abbrev pub Done : Open → List Open → Making → Walked → Walked → Type 0
Done u stack m w v = (last : Walked) × (v ≡ with_job u stack m last) × Shut (u ∷ stack) w last

-- the unit's number comes behind what its prerequisites left
pub finishing_kept : (visit : Walked → List ℕ → Asking Walking) (u : Open) (stack : List Open) (m : Making) → Visits visit (u ∷ stack) → (ns : List Need) (w : Walked) → Ends (Done u stack m w) (finishing visit u stack m ns w)
finishing_kept visit u stack m h [] w = (w, refl, λ q there. refl)
finishing_kept visit u stack m h (n ∷ ns) w =
    ends_walked (Shut (u ∷ stack) w) (Done u stack m w) (meeting visit u stack w n.name) (finishing visit u stack m ns)
    (by_open (is_open (u ∷ stack) n.name) refl)
    (λ x shut. ends_so (Done u stack m x) (Done u stack m w) (finishing visit u stack m ns x) (λ v d. (d.0, d.1, λ q there. d.2 q there ∙ shut q there)) (finishing_kept visit u stack m h ns x))
  where
    by_open : (b : Bool) → is_open (u ∷ stack) n.name ≡ b → Ends (Shut (u ∷ stack) w) (cond b (Had (Ok (noted u.trigger n.name w))) (visit w n.name))
    by_open true is = λ q there. refl
    by_open false isnt = h w n.name isnt

-- the jobs are those before and one more of the name
abbrev pub OneMore : List Open → List ℕ → Walked → Walked → Type 0
OneMore stack n w v = Shut stack w v × (length (numbers_of v.jobs n) ≡ length (numbers_of w.jobs n) + 1)

pub unit_kept : (visit : Walked → List ℕ → Asking Walking) (stack : List Open) (n : List ℕ) (m : Making) → Visits visit (opened n m ∷ stack) → Fits stack n m → (w : Walked)
    → Ends (OneMore stack n w) (finishing visit (opened n m) stack m m.needs w)
unit_kept visit stack n m h fits w = ends_so (Done (opened n m) stack m w) (OneMore stack n w) (finishing visit (opened n m) stack m m.needs w) counted (finishing_kept visit (opened n m) stack m h m.needs w)
  where
    numbers : (last : Walked) (q : List ℕ) → numbers_of (with_job (opened n m) stack m last).jobs q ≡ numbers_of last.jobs q ++ cond (is_among m.targets q) (length last.jobs ∷ []) []
    numbers last q = numbers_last last.jobs (job_of (is_open (opened n m ∷ stack)) (numbers_of last.jobs) n (from_in stack) m) q

    counted : (v : Walked) → Done (opened n m) stack m w v → OneMore stack n w v
    counted v d =
        let last : Walked = d.0 in (
          λ q there.
              let other : is_among m.targets q ≡ false = by_cases (is_among m.targets q) (λ b. is_among m.targets q ≡ b → b ≡ false) (λ _ own. absurd (not_both (is_open stack q) there (fits.apart q own))) (λ _ _. refl) refl in
              ap (λ (x : Walked). numbers_of x.jobs q) d.1 ∙ numbers last q ∙ ap (λ b. numbers_of last.jobs q ++ cond b (length last.jobs ∷ []) []) other ∙ append-nil (numbers_of last.jobs q)
              ∙ d.2 q (rw there (or_true (is_among m.targets q))),
          ap (λ (x : Walked). length (numbers_of x.jobs n)) d.1 ∙ ap length (numbers last n) ∙ ap (λ b. length (numbers_of last.jobs n ++ cond b (length last.jobs ∷ []) [])) fits.own
              ∙ length-append (numbers_of last.jobs n) (length last.jobs ∷ []) ∙ ap (λ (ks : List ℕ). length ks + 1) (d.2 n (rw fits.own refl)),
        )

pub entering_kept : (visit : List Open → Walked → List ℕ → Asking Walking) (stack : List Open) → ((u : Open) → Visits (visit (u ∷ stack)) (u ∷ stack)) → (n : List ℕ) (ms : List Making) → AllByRecursion (Fits stack n) ms → (w : Walked)
    → Ends (Shut stack w) (entering visit stack n ms w)
entering_kept visit stack h n [] fits w = λ q there. refl
entering_kept visit stack h n (m ∷ ms) fits w = by_room (has_room stack w) (λ v. entering_kept visit stack h n ms fits.1 v)
  where
    by_room : (b : Bool) → ((v : Walked) → Ends (Shut stack v) (entering visit stack n ms v))
        → Ends (Shut stack w) (cond b (walked_then (finishing (visit (opened n m ∷ stack)) (opened n m) stack m m.needs w) (entering visit stack n ms)) (Had (Err TooManyJobs)))
    by_room false rest = tt
    by_room true rest = ends_walked (OneMore stack n w) (Shut stack w) (finishing (visit (opened n m ∷ stack)) (opened n m) stack m m.needs w) (entering visit stack n ms)
        (unit_kept (visit (opened n m ∷ stack)) stack n m (h (opened n m)) fits.0 w)
        (λ v one. ends_so (Shut stack v) (Shut stack w) (entering visit stack n ms v) (λ x shut q there. shut q there ∙ one.0 q there) (rest v))

module _ (units : Units) (facts : AreUnits units) where
  -- what is asked for a name that isn't open may be opened
  pub units_fit : (stack : List Open) (w : Walked) (n : List ℕ) → is_open stack n ≡ false → Each (AllByRecursion (Fits stack n)) (units_asked units stack w n)
  units_fit stack w n shut = each_so (AllByRecursion (Keeps (is_known stack w) n)) (AllByRecursion (Fits stack n)) (units_asked units stack w n)
      (λ ms keep. each_other (Keeps (is_known stack w) n) (Fits stack n) (λ m k. record { own = k.own; apart = λ q there. away q (k.new q there) }) ms keep)
      (facts.keeps (is_known stack w) n (length (numbers_of w.jobs n)))
    where
      away : (q : List ℕ) → (q ≡ n) ⊎ (is_known stack w q ≡ false) → is_open stack q ≡ false
      away q (inl is) = ap (is_open stack) is ∙ shut
      away q (inr new) = (either_false (is_open stack q) (numbered w.jobs q) new).0

  pub visiting_kept : (left : ℕ) (stack : List Open) → Visits (visiting units left stack) stack
  unfolding visiting
  visiting_kept zero stack w n shut = each_then (AllByRecursion (Fits stack n)) (λ (r : Walking). IfOk r (Shut stack w)) (units_asked units stack w n) (λ ms. entering no_visit stack n ms w) (units_fit stack w n shut)
      (λ ms fit. entering_kept no_visit stack (λ u x q _. tt) n ms fit w)
  visiting_kept (suc left) stack w n shut = each_then (AllByRecursion (Fits stack n)) (λ (r : Walking). IfOk r (Shut stack w)) (units_asked units stack w n) (λ ms. entering (visiting units left) stack n ms w) (units_fit stack w n shut)
      (λ ms fit. entering_kept (visiting units left) stack (λ u. visiting_kept left (u ∷ stack)) n ms fit w)
