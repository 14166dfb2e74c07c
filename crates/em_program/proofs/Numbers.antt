-- How many jobs a plan has, what they wait for, and its specs: as many as it has jobs, each with
-- its number and the order's flags.
use Rattle.std.proofs.Common.{◌≡◌, ◌+◌, ◌≤◌, ◌<◌, ℕ, zero, suc, List, [], ◌∷◌, length, Option, Some, None, Ok, refl, ap, subst, arith}
use Rattle.std.specs.Prelude.{IfSome, All, slice_get, slice_index_or}
use Rattle.std.specs.List.Sorted.{IsStrictlySortedBy}
use Rattle.std.specs.Ordering.{nat_cmp}
use Rattle.std.specs.List.{Contains}
use Rattle.std.proofs.lemmas.List.Elements.{All-nil, All-cons, All-append, All-filter, All-weaker, All-contains_itself}
use Rattle.em_cmdline.specs.declared.order.Order.{Order}
use Rattle.em_rules.specs.declared.book.Book.{Book}
use Rattle.em_plan.specs.declared.planned.PlanJob.{PlanJob}
use Rattle.em_plan.specs.Order.{Says}
use Rattle.em_plan.specs.declared.planned.Plan.{Plan}
use Rattle.em_plan.specs.Makings.{making_of}
use Rattle.em_plan.specs.Plans.{asked, plan_for, plan_of}
use Rattle.em_tree.specs.Trees.{Table}
use Rattle.em_task.specs.declared.job.Job.{Job}
use Rattle.em_job.specs.Making.{flags_of, job_of, jobs_from, jobs_of}
use Rattle.em_engine.specs.Fronts.{AreNumbered}
use Rattle.em_history.specs.Histories.{Pair}
use Rattle.em_learning.specs.Waits.{below, is_needed, waits_from, waits_with, IsPlanned, ArePlanned}

abbrev HasFlags : Order → Job → Type 0
HasFlags order j = j.flags ≡ flags_of order

module _ (book : Book) (order : Order) (base : ℕ) where
  count_from : (i : ℕ) (plans : List PlanJob) → length (jobs_from book order base i plans) ≡ length plans
  count_from i [] = refl
  count_from i (p ∷ ps) = ap suc (count_from (suc i) ps)

  numbers_from : (i : ℕ) (plans : List PlanJob) (k : ℕ) → IfSome (slice_get (jobs_from book order base i plans) k) (λ j. j.job ≡ i + k)
  numbers_from i [] k = tt
  numbers_from i (p ∷ ps) zero = omega arith
  numbers_from i (p ∷ ps) (suc k) =
      let shift : suc i + k ≡ i + suc k = omega arith in
      subst (λ (n : ℕ). IfSome (slice_get (jobs_from book order base (suc i) ps) k) (λ j. j.job ≡ n)) shift (numbers_from (suc i) ps k)

  flags_from : (i : ℕ) (plans : List PlanJob) → All (HasFlags order) (jobs_from book order base i plans)
  flags_from i [] = All-nil (HasFlags order)
  flags_from i (p ∷ ps) = All-cons (HasFlags order) (job_of book order base i p) (jobs_from book order base (suc i) ps) refl (flags_from (suc i) ps)

  pub spec_count : (plans : List PlanJob) → length (jobs_of book order base plans) ≡ length plans
  unfolding jobs_of
  spec_count plans = count_from 0 plans

  pub numbered : (plans : List PlanJob) → AreNumbered (λ (j : Job). j.job) (jobs_of book order base plans)
  unfolding jobs_of
  numbered plans k =
      let from_0 : 0 + k ≡ k = omega arith in
      subst (λ (n : ℕ). IfSome (slice_get (jobs_from book order base 0 plans) k) (λ j. j.job ≡ n)) from_0 (numbers_from 0 plans k)

  pub flagged : (plans : List PlanJob) → All (λ (j : Job). j.flags ≡ flags_of order) (jobs_of book order base plans)
  unfolding jobs_of
  flagged plans = flags_from 0 plans

pub plan_few : ((says : Says) (goals : List (List ℕ)) (p : Plan) → plan_for says goals ≡ Ok p → length p.jobs ≤ 65536)
    → (book : Book) (goals : List (List ℕ)) (t : Table) (cwd : List ℕ) (p : Plan) → plan_of book goals t cwd ≡ Ok p → length p.jobs ≤ 65536
unfolding plan_of
plan_few law book goals t cwd p e = law (making_of book.rules book.patterns t cwd) (asked goals book.default_goal) p e

module _ (book : Book) (goals : List (List ℕ)) (t : Table) (cwd : List ℕ) (p : Plan) where
  pub planned_so : ((says : Says) (goals : List (List ℕ)) (p : Plan) → plan_for says goals ≡ Ok p → length p.jobs ≤ 65536)
      → ((says : Says) (goals : List (List ℕ)) (p : Plan) → plan_for says goals ≡ Ok p → (k : ℕ) (job : PlanJob) → slice_get p.jobs k ≡ Some job → IsStrictlySortedBy nat_cmp job.waits)
      → ((says : Says) (goals : List (List ℕ)) (p : Plan) → plan_for says goals ≡ Ok p → (k : ℕ) (job : PlanJob) → slice_get p.jobs k ≡ Some job → (i : ℕ) → Contains job.waits i → i < k)
      → plan_of book goals t cwd ≡ Ok p → ArePlanned p.jobs
  unfolding plan_of
  planned_so limit rise below e =
      let says = making_of book.rules book.patterns t cwd in
      let asks = asked goals book.default_goal in
      let few : length p.jobs ≤ 65536 = limit says asks p e in
      record { few = omega arith; waits = λ k. by_job k (slice_get p.jobs k) refl }
    where
      by_job : (k : ℕ) (o : Option PlanJob) → slice_get p.jobs k ≡ o → IfSome o (IsPlanned k)
      by_job k None at = tt
      by_job k (Some j) at =
          let says = making_of book.rules book.patterns t cwd in
          let asks = asked goals book.default_goal in
          (rise says asks p e k j at, All-weaker (Contains j.waits) (λ i. i < k) (λ i c. below says asks p e k j at i c) j.waits (All-contains_itself j.waits))

-- ---- what jobs wait for

below_lower : (n m : ℕ) → n ≤ m → All (λ i. i < m) (below n)
below_lower zero m low = All-nil (λ i. i < m)
below_lower (suc n) m low = All-append (λ i. i < m) (below n) (n ∷ []) (below_lower n m (omega arith)) (All-cons (λ i. i < m) n [] (omega arith) (All-nil (λ i. i < m)))

module _ (old : List Pair) (jobs : List PlanJob) where
  waits_count_from : (n : ℕ) (later : List PlanJob) → length (waits_from old jobs n later) ≡ length later
  waits_count_from n [] = refl
  waits_count_from n (job ∷ later) = ap suc (waits_count_from (suc n) later)

  waits_lower_from : (n : ℕ) (later : List PlanJob) (k : ℕ) → All (λ i. i < n + k) (slice_index_or (waits_from old jobs n later) k [])
  waits_lower_from n [] k = All-nil (λ i. i < n + k)
  waits_lower_from n (job ∷ later) zero = All-filter (is_needed old jobs job) (λ i. i < n + 0) (below n) (below_lower n (n + 0) (omega arith))
  waits_lower_from n (job ∷ later) (suc k) =
      let shift : suc n + k ≡ n + suc k = omega arith in
      subst (λ (m : ℕ). All (λ i. i < m) (slice_index_or (waits_from old jobs (suc n) later) k [])) shift (waits_lower_from (suc n) later k)

  pub waits_count : length (waits_with old jobs) ≡ length jobs
  unfolding waits_with
  waits_count = waits_count_from 0 jobs

  pub waits_lower : (k : ℕ) → All (λ i. i < k) (slice_index_or (waits_with old jobs) k [])
  unfolding waits_with
  waits_lower k =
      let from_0 : 0 + k ≡ k = omega arith in
      subst (λ (m : ℕ). All (λ i. i < m) (slice_index_or (waits_from old jobs 0 jobs) k [])) from_0 (waits_lower_from 0 jobs k)
