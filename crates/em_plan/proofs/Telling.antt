-- By the answers of a tree the walk as questions is the walk, and its plan the plan.
--     told_walked        one walk after another
--     told_visiting      the walk that comes to a name
--     told_plan          the plan
use Rattle.std.proofs.Common.{◌≡◌, ◌∙◌, refl, ap, ℕ, zero, suc, Bool, true, false, cond, List, [], ◌∷◌, length, drop, Ok, Err}
use Rattle.em_tree.specs.Trees.{Table}
use Rattle.em_rules.specs.declared.book.Book.{Book}
use Rattle.em_implicit.specs.Asking.{Asking, Had, and_then as asked_then, told}
use Rattle.em_implicit.specs.Seeking.{stands}
use Rattle.em_implicit.proofs.Told.{told_then}
use Rattle.em_plan.specs.declared.making.Need.{Need}
use Rattle.em_plan.specs.declared.making.Making.{Making}
use Rattle.em_plan.specs.declared.walk.Walked.{Walked}
use Rattle.em_plan.specs.declared.no.PlanNo.TheVariants.{TooManyJobs}
use Rattle.em_plan.specs.Once.{each_once}
use Rattle.em_plan.specs.Jobs.{numbers_of}
use Rattle.em_plan.specs.Makings.{making_of}
use Rattle.em_plan.specs.Order.{limit, Says, Walking, Open, opened, and_then, is_open, is_known, meet, finish, enter, visit, visit_all, has_room, noted, no_room, units_left, nothing_walked}
use Rattle.em_plan.specs.Plans.{asked, as_plan, plan_for, plan_of}
use Rattle.em_plan.specs.Walking.{Units, if_walked, walked_then, meeting, finishing, entering, no_visit, units_asked, visiting, visiting_all, as_asked, planning, plan_asking, asking}
use Rattle.em_plan.proofs.Sought.{asking_told}

module _ (f : List ℕ → Bool) where
  -- what follows a walk that is told
  if_told : (k : Walked → Asking Walking) (h : Walked → Walking) (r : Walking) → ((w : Walked) → told f (k w) ≡ h w) → told f (if_walked k r) ≡ and_then r h
  if_told k h (Ok w) e = e w
  if_told k h (Err x) e = refl

  pub told_walked : (x : Asking Walking) (r : Walking) (k : Walked → Asking Walking) (h : Walked → Walking) → told f x ≡ r → ((w : Walked) → told f (k w) ≡ h w) → told f (walked_then x k) ≡ and_then r h
  told_walked x r k h is e = told_then f x (if_walked k) ∙ ap (λ (q : Walking). told f (if_walked k q)) is ∙ if_told k h r e

  told_meeting : (visit : Walked → List ℕ → Asking Walking) (seen : Walked → List ℕ → Walking) → ((w : Walked) (n : List ℕ) → told f (visit w n) ≡ seen w n)
      → (u : Open) (stack : List Open) (w : Walked) (n : List ℕ) → told f (meeting visit u stack w n) ≡ meet seen u stack w n
  told_meeting visit seen same u stack w n = by (is_open (u ∷ stack) n)
    where
      by : (b : Bool) → told f (cond b (Had (Ok (noted u.trigger n w))) (visit w n)) ≡ cond b (Ok (noted u.trigger n w)) (seen w n)
      by true = refl
      by false = same w n

  told_finishing : (visit : Walked → List ℕ → Asking Walking) (seen : Walked → List ℕ → Walking) → ((w : Walked) (n : List ℕ) → told f (visit w n) ≡ seen w n)
      → (u : Open) (stack : List Open) (m : Making) (ns : List Need) (w : Walked) → told f (finishing visit u stack m ns w) ≡ finish seen u stack m ns w
  told_finishing visit seen same u stack m [] w = refl
  told_finishing visit seen same u stack m (n ∷ ns) w = told_walked (meeting visit u stack w n.name) (meet seen u stack w n.name) (finishing visit u stack m ns) (finish seen u stack m ns)
      (told_meeting visit seen same u stack w n.name) (λ v. told_finishing visit seen same u stack m ns v)

  told_entering : (visit : List Open → Walked → List ℕ → Asking Walking) (seen : List Open → Walked → List ℕ → Walking) → ((stack : List Open) (w : Walked) (n : List ℕ) → told f (visit stack w n) ≡ seen stack w n)
      → (stack : List Open) (name : List ℕ) (ms : List Making) (w : Walked) → told f (entering visit stack name ms w) ≡ enter seen stack name ms w
  told_entering visit seen same stack name [] w = refl
  told_entering visit seen same stack name (m ∷ ms) w = by (has_room stack w) (λ v. told_entering visit seen same stack name ms v)
    where
      by : (b : Bool) → ((v : Walked) → told f (entering visit stack name ms v) ≡ enter seen stack name ms v)
          → told f (cond b (walked_then (finishing (visit (opened name m ∷ stack)) (opened name m) stack m m.needs w) (entering visit stack name ms)) (Had (Err TooManyJobs)))
          ≡ cond b (and_then (finish (seen (opened name m ∷ stack)) (opened name m) stack m m.needs w) (enter seen stack name ms)) (Err TooManyJobs)
      by false rest = refl
      by true rest = told_walked (finishing (visit (opened name m ∷ stack)) (opened name m) stack m m.needs w) (finish (seen (opened name m ∷ stack)) (opened name m) stack m m.needs w) (entering visit stack name ms) (enter seen stack name ms)
          (told_finishing (visit (opened name m ∷ stack)) (seen (opened name m ∷ stack)) (same (opened name m ∷ stack)) (opened name m) stack m m.needs w) rest

  module _ (units : Units) (says : Says) (same : (known : List ℕ → Bool) (n : List ℕ) (place : ℕ) → told f (units known n place) ≡ drop place (says known n)) where
    entered : (visit : List Open → Walked → List ℕ → Asking Walking) (seen : List Open → Walked → List ℕ → Walking) → ((stack : List Open) (w : Walked) (n : List ℕ) → told f (visit stack w n) ≡ seen stack w n)
        → (stack : List Open) (w : Walked) (n : List ℕ) → told f (asked_then (units_asked units stack w n) (λ ms. entering visit stack n ms w)) ≡ enter seen stack n (units_left says stack w n) w
    entered visit seen alike stack w n = told_then f (units_asked units stack w n) (λ ms. entering visit stack n ms w)
        ∙ ap (λ (ms : List Making). told f (entering visit stack n ms w)) (same (is_known stack w) n (length (numbers_of w.jobs n)))
        ∙ told_entering visit seen alike stack n (units_left says stack w n) w

    pub told_visiting : (left : ℕ) (stack : List Open) (w : Walked) (n : List ℕ) → told f (visiting units left stack w n) ≡ visit says left stack w n
    unfolding visiting visit
    told_visiting zero stack w n = entered no_visit no_room (λ s v q. refl) stack w n
    told_visiting (suc left) stack w n = entered (visiting units left) (visit says left) (told_visiting left) stack w n

    told_all : (goals : List (List ℕ)) (w : Walked) → told f (visiting_all units goals w) ≡ visit_all says goals w
    told_all [] w = refl
    told_all (g ∷ gs) w = told_walked (visiting units limit [] w g) (visit says limit [] w g) (visiting_all units gs) (visit_all says gs) (told_visiting limit [] w g) (λ v. told_all gs v)

    told_planning : (goals : List (List ℕ)) → told f (planning units goals) ≡ plan_for says goals
    told_planning [] = refl
    told_planning (g ∷ gs) = told_then f (visiting_all units (each_once [] (g ∷ gs)) nothing_walked) (as_asked (each_once [] (g ∷ gs)))
        ∙ ap (as_plan (each_once [] (g ∷ gs))) (told_all (each_once [] (g ∷ gs)) nothing_walked)

pub told_plan : (book : Book) (goals : List (List ℕ)) (tree : Table) (cwd : List ℕ) → told (stands tree) (plan_asking book goals cwd) ≡ plan_of book goals tree cwd
unfolding plan_asking plan_of
told_plan book goals tree cwd = told_planning (stands tree) (asking book.rules book.patterns cwd) (making_of book.rules book.patterns tree cwd) (asking_told book.rules book.patterns cwd tree) (asked goals book.default_goal)
