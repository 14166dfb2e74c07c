-- Goals, and what the plan comes to.
--     there_none, there_more     a table has the names so far, where one more is put
--     came_none, came_some, came_short, came_fails, came_want      what the plan comes to without goals, and where there are some, put together from what the code's calls come to
--     plain_ok, plain_err, plain_unspent      whoever answers each question alike: the plan is the one that is told
--     desk_plans                 over a desk the plan was performed
use Rattle.std.proofs.Common.{map, ◌≡◌, ◌⊎◌, inl, inr, ℕ, suc, arith, Bool, true, false, cond, ◌||◌, List, [], ◌∷◌, ◌++◌, length, nat_eq, Option, Some, Result, Ok, Err, refl, sym, ap, subst, ◌∙◌}
use Rattle.std.specs.Prelude.{is_some, IfOk, IfErr, IsErrAnd}
use Rattle.std.specs.FinMap.{FinMap, get, insert, empty, get-empty}
use Rattle.std.specs.Cmp.Lexicographic.{slice_cmp}
use Rattle.std.specs.Ordering.{nat_cmp}
use Rattle.std.proofs.lemmas.List.Folds.{list_any-append}
use Rattle.std.proofs.lemmas.Bool.Decides.{nat_tests}
use Rattle.em_base.proofs.Lemmas.{get_put}
use Rattle.em_rules.specs.declared.book.Book.{Book}
use Rattle.em_view.specs.declared.no.DeskNo.{DeskNo}
use Rattle.em_view.specs.declared.no.DeskNo.TheVariants as desk
use Rattle.em_view.specs.Actions.{Workspace, ◌>>=◌, lift, renamed}
use Rattle.em_view.specs.Performs.{DeskState, Told, Performs, is_free}
use Rattle.em_view.specs.Rows.{is_memory}
use Rattle.em_view.proofs.Performing.{then, exit, finish, refused, lifted}
use Rattle.em_implicit.specs.Asking.{Asking, Had, and_then, told, acted, Asks, Follows, Here, Stops, Lacks}
use Rattle.em_implicit.proofs.Following.{first, stopped, leave_asked, told_on, told_stops, desk_asks, on_desk}
use Rattle.em_plan.specs.declared.planned.Plan.{Plan}
use Rattle.em_plan.specs.declared.walk.Walked.{Walked}
use Rattle.em_plan.specs.declared.no.PlanNo.{PlanNo}
use Rattle.em_plan.specs.declared.no.PlanNo.TheVariants as no
use Rattle.em_plan.specs.Once.{each_once, is_among, same}
use Rattle.em_plan.specs.Order.{nothing_walked}
use Rattle.em_plan.specs.Plans.{asked}
use Rattle.em_plan.specs.Jobs.{numbers_of}
use Rattle.em_plan.specs.Walking.{asking, visiting_all, as_asked, planning, plan_asking, of_desk, given, planned_through, is_want, Fails, Comes}
use Rattle.em_plan.specs.Resuming.{Marks, AreMarked, numbers_in}
use Rattle.em_plan.proofs.Walks.{numbers_all}

abbrev Names : Type 0
Names = FinMap (slice_cmp nat_cmp) (Unit {0})

abbrev none_there : Names
none_there = empty

pub there_none : (q : List ℕ) → is_some (get none_there q) ≡ is_among [] q
there_none q = ap is_some (get-empty (slice_cmp nat_cmp) q)

pub there_more : (t : Names) (names : List (List ℕ)) (n : List ℕ) → ((q : List ℕ) → is_some (get t q) ≡ is_among names q)
    → (q : List ℕ) → is_some (get (insert t n tt) q) ≡ is_among (names ++ n ∷ []) q
there_more t names n h q = ap is_some (get_put t n tt q) ∙ by_case (same q n) (get t q) (is_among names q) (h q) ∙ sym (list_any-append (same q) names (n ∷ []))
  where
    by_case : (b : Bool) (o : Option (Unit {0})) (a : Bool) → is_some o ≡ a → is_some (cond b (Some tt) o) ≡ (a || (b || false))
    by_case true o true e = refl
    by_case true o false e = refl
    by_case false o true e = e
    by_case false o false e = e

not_zero : (n : ℕ) → nat_eq (suc n) 0 ≡ true → ⊥
not_zero n e = let h : suc n ≡ 0 = grind (arith, nat_tests) in omega arith

module _ {T : Type 0} (asks : Asks T) where
  -- memory was short, when nothing had been asked
  pub came_want : (a : T) (x : Asking (Result Plan PlanNo)) (r : Result Plan PlanNo) → IsErrAnd r (λ e. e ≡ no.NoMemory) → Comes asks a a r x
  came_want a x (Ok p) is = absurd is
  came_want a x (Err e) is = subst (λ (k : PlanNo). Comes asks a a (Err k) x) (sym is) (Lacks a x)

  module _ (book : Book) (cwd : List ℕ) (goals wanted : List (List ℕ)) (is : wanted ≡ asked goals book.default_goal) where
    abbrev asking_for : List (List ℕ) → Asking (Result Plan PlanNo)
    asking_for ts = planning (asking book.rules book.patterns cwd) ts

    as_given : (a b : T) (r : Result Plan PlanNo) → Comes asks a b r (asking_for wanted) → Comes asks a b r (plan_asking book goals cwd)
    unfolding plan_asking
    as_given a b r h = subst (λ (ts : List (List ℕ)). Comes asks a b r (asking_for ts)) is h

    pub came_none : (a : T) → nat_eq (length wanted) 0 ≡ true → Comes asks a a (Err no.NoTargets) (plan_asking book goals cwd)
    came_none a none = as_given a a (Err no.NoTargets) (by wanted none)
      where
        by : (ts : List (List ℕ)) → nat_eq (length ts) 0 ≡ true → Comes asks a a (Err no.NoTargets) (asking_for ts)
        by [] none = Here a _
        by (t ∷ ts) none = absurd (not_zero (length ts) none)

    module _ (some : nat_eq (length wanted) 0 ≡ false) (names : List (List ℕ)) (once : names ≡ each_once [] wanted) where
      -- the walk, and the plan of it
      walked_first : asking_for wanted ≡ and_then (visiting_all (asking book.rules book.patterns cwd) names nothing_walked) (as_asked names)
      walked_first = by wanted some once
        where
          by : (ts : List (List ℕ)) → nat_eq (length ts) 0 ≡ false → names ≡ each_once [] ts → asking_for ts ≡ and_then (visiting_all (asking book.rules book.patterns cwd) names nothing_walked) (as_asked names)
          by [] some once = absurd cc
          by (t ∷ ts) some once = rw once refl

      pub came_some : {a b : T} (marks : Marks) (w : Walked) (numbers : List (List ℕ)) → Follows asks a b (visiting_all (asking book.rules book.patterns cwd) names nothing_walked) (Had (Ok w)) → AreMarked marks [] w.jobs → numbers ≡ map (numbers_in marks) names
          → Comes asks a b (Ok (record { jobs = w.jobs; goals = numbers; notes = w.notes })) (plan_asking book goals cwd)
      came_some {a} {b} marks w numbers walked marked are =
          let are_so : numbers ≡ map (numbers_of w.jobs) names = are ∙ ap (λ (f : List ℕ → List ℕ). map f names) (numbers_all marks [] w marked) in
          let came : Follows asks a b (asking_for wanted) (Had (Ok (record { jobs = w.jobs; goals = map (numbers_of w.jobs) names; notes = w.notes }))) = rw walked_first (first (as_asked names) walked) in
          as_given a b (Ok (record { jobs = w.jobs; goals = numbers; notes = w.notes })) (rw are_so came)

      -- memory was short behind the walk
      pub came_short : {a b : T} (w : Walked) (r : Result Plan PlanNo) → IsErrAnd r (λ e. e ≡ no.NoMemory) → Follows asks a b (visiting_all (asking book.rules book.patterns cwd) names nothing_walked) (Had (Ok w)) → Comes asks a b r (plan_asking book goals cwd)
      came_short w (Ok p) is walked = absurd is
      came_short {a} {b} w (Err e) is walked =
          let came : Stops asks a b desk.NoMemory (asking_for wanted) = rw walked_first (stopped (first (as_asked names) walked) (Lacks b _)) in
          subst (λ (k : PlanNo). Comes asks a b (Err k) (plan_asking book goals cwd)) (sym is) (as_given a b (Err no.NoMemory) came)

      pub came_fails : (a b : T) (e : PlanNo) → Fails asks a b (visiting_all (asking book.rules book.patterns cwd) names nothing_walked) e → Comes asks a b (Err e) (plan_asking book goals cwd)
      came_fails a b e h = as_given a b (Err e) (rw walked_first (by e h))
        where
          by : (e : PlanNo) → Fails asks a b (visiting_all (asking book.rules book.patterns cwd) names nothing_walked) e → Comes asks a b (Err e) (and_then (visiting_all (asking book.rules book.patterns cwd) names nothing_walked) (as_asked names))
          by no.NoMemory h = leave_asked (as_asked names) (Err desk.NoMemory) refl h
          by no.Spent h = leave_asked (as_asked names) (Err desk.Spent) refl h
          by no.TooManyJobs h = first (as_asked names) h
          by no.NoTargets h = absurd h

-- ---- a tree

module _ {T : Type 0} (asks : Asks T) (f : T → List ℕ → Bool) (plain : (a b : T) (p : List ℕ) (v : Bool) → asks a b p (Ok v) → (b ≡ a) × (v ≡ f a p)) where
  pub plain_ok : (a b : T) (x : Asking (Result Plan PlanNo)) (r : Result Plan PlanNo) → Comes asks a b r x → IfOk r (λ p. told (f a) x ≡ Ok p)
  plain_ok a b x (Ok p) h = told_on asks f plain h
  plain_ok a b x (Err e) h = tt

  module _ (fails : (a b : T) (p : List ℕ) (e : DeskNo) → asks a b p (Err e) → e ≡ desk.NoMemory) where
    -- fuel doesn't end
    plain_spent : (a b : T) (x : Asking (Result Plan PlanNo)) → Stops asks a b desk.Spent x → ⊥
    plain_spent a b x h = let bad : desk.Spent ≡ desk.NoMemory = told_stops asks fails a b x (Err desk.Spent) h in cc

    pub plain_err : (a b : T) (x : Asking (Result Plan PlanNo)) (r : Result Plan PlanNo) → Comes asks a b r x → IfErr r (λ e. (e ≡ no.NoMemory) ⊎ (told (f a) x ≡ Err e))
    plain_err a b x (Ok p) h = tt
    plain_err a b x (Err no.NoMemory) h = inl refl
    plain_err a b x (Err no.Spent) h = absurd (plain_spent a b x h)
    plain_err a b x (Err no.TooManyJobs) h = inr (told_on asks f plain h)
    plain_err a b x (Err no.NoTargets) h = inr (told_on asks f plain h)

    pub plain_unspent : (a b : T) (x : Asking (Result Plan PlanNo)) (r : Result Plan PlanNo) → Comes asks a b r x → r ≡ Err no.Spent → ⊥
    plain_unspent a b x r h is = plain_spent a b x (subst (λ (q : Result Plan PlanNo). Comes asks a b q x) is h)

-- ---- a desk

module _ {V : Type 0} {tells : V → Told} where
  -- the walk's own end, under the plan's errors
  performed : (a b : DeskState V) (x : Asking (Result Plan PlanNo)) (r : Result Plan PlanNo) → is_free is_want r ≡ false → Performs is_memory tells a b (Ok r) (acted x) → Performs is_want tells a b r (lift of_desk (acted x) >>= given)
  performed a b x (Ok p) fair h = then given (lifted of_desk h) finish
  performed a b x (Err e) fair h = then given (lifted of_desk h) refused

  spent : (a b : DeskState V) (x : Asking (Result Plan PlanNo)) → Performs is_memory tells a b (Err desk.Spent) (acted x) → Performs is_want tells a b (Err no.Spent) (lift of_desk (acted x))
  unfolding lift
  spent a b x p = record { grows = p.grows; plain = λ fair o all. ap (λ (z : Result (Result Plan PlanNo) DeskNo × Workspace). let q : Result (Result Plan PlanNo) PlanNo × Workspace = (renamed of_desk z.0, z.1) in q) (p.plain refl o all) }

  pub desk_comes : (a b : DeskState V) (x : Asking (Result Plan PlanNo)) (r : Result Plan PlanNo) → Comes (desk_asks tells) a b r x → Performs is_want tells a b r (lift of_desk (acted x) >>= given)
  desk_comes a b x (Ok p) h = performed a b x (Ok p) refl (on_desk a b x (Ok (Ok p)) h)
  desk_comes a b x (Err no.TooManyJobs) h = performed a b x (Err no.TooManyJobs) refl (on_desk a b x (Ok (Err no.TooManyJobs)) h)
  desk_comes a b x (Err no.NoTargets) h = performed a b x (Err no.NoTargets) refl (on_desk a b x (Ok (Err no.NoTargets)) h)
  desk_comes a b x (Err no.NoMemory) h = let p = on_desk a b x (Err desk.NoMemory) h in record { grows = p.grows; plain = λ fair. absurd (let bad : true ≡ false = fair in cc) }
  desk_comes a b x (Err no.Spent) h = exit given (spent a b x (on_desk a b x (Err desk.Spent) h))

  pub desk_plans : (a b : DeskState V) (book : Book) (goals : List (List ℕ)) (cwd : List ℕ) (r : Result Plan PlanNo) → Comes (desk_asks tells) a b r (plan_asking book goals cwd) → Performs is_want tells a b r (planned_through book goals cwd)
  unfolding planned_through
  desk_plans a b book goals cwd r h = desk_comes a b (plan_asking book goals cwd) r h
