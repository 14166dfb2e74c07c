-- The numbers of names among jobs, and the prerequisites that remain, where one more follows.
--     numbers_append, numbers_last      the numbers among jobs and others behind them, and with one job more
--     numbers_none      a name that is no target of these jobs has no number among them
--     normal_more, order_more, jobs_more      the prerequisites that remain, one more
use Rattle.std.proofs.Common.{◌≡◌, ℕ, suc, ◌+◌, Bool, true, false, cond, not, List, [], ◌∷◌, ◌++◌, length, map, refl, sym, ap, ◌∙◌, arith}
use Rattle.std.specs.List.{AllByRecursion, filter, flat_map}
use Rattle.std.proofs.lemmas.List.{append-nil, map-append}
use Rattle.std.proofs.lemmas.List.Elements.{filter-append}
use Rattle.std.proofs.lemmas.Grind.{flat_map-append}
use Rattle.em_plan.specs.declared.making.Need.{Need}
use Rattle.em_plan.specs.declared.planned.Pre.{Pre}
use Rattle.em_plan.specs.declared.planned.PlanJob.{PlanJob}
use Rattle.em_plan.specs.Once.{is_among}
use Rattle.em_plan.specs.Jobs.{numbers_from, numbers_of, pre, remaining, pres, jobs_in, normal_ones, order_only_ones}

pub numbers_append : (i : ℕ) (xs ys : List PlanJob) (n : List ℕ) → numbers_from i (xs ++ ys) n ≡ numbers_from i xs n ++ numbers_from (i + length xs) ys n
numbers_append i [] ys n = let none : i + 0 ≡ i = omega arith in rw none refl
numbers_append i (x ∷ xs) ys n =
    let later : i + 1 + length xs ≡ i + suc (length xs) = omega arith in
    by_case (is_among x.targets n) (numbers_append (i + 1) xs ys n ∙ ap (λ k. numbers_from (i + 1) xs n ++ numbers_from k ys n) later)
  where
    by_case : (b : Bool) → numbers_from (i + 1) (xs ++ ys) n ≡ numbers_from (i + 1) xs n ++ numbers_from (i + suc (length xs)) ys n
        → cond b (i ∷ numbers_from (i + 1) (xs ++ ys) n) (numbers_from (i + 1) (xs ++ ys) n) ≡ cond b (i ∷ numbers_from (i + 1) xs n) (numbers_from (i + 1) xs n) ++ numbers_from (i + suc (length xs)) ys n
    by_case true e = ap (λ ks. i ∷ ks) e
    by_case false e = e

pub numbers_last : (jobs : List PlanJob) (job : PlanJob) (n : List ℕ) → numbers_of (jobs ++ job ∷ []) n ≡ numbers_of jobs n ++ cond (is_among job.targets n) (length jobs ∷ []) []
numbers_last jobs job n = numbers_append 0 jobs (job ∷ []) n ∙ ap (λ k. numbers_of jobs n ++ cond (is_among job.targets n) (k ∷ []) []) (let e : 0 + length jobs ≡ length jobs = omega arith in e)

pub numbers_none : (i : ℕ) (jobs : List PlanJob) (n : List ℕ) → AllByRecursion (λ (j : PlanJob). is_among j.targets n ≡ false) jobs → numbers_from i jobs n ≡ []
numbers_none i [] n h = refl
numbers_none i (j ∷ js) n h = rw h.0 (numbers_none (i + 1) js n h.1)

pub numbers_kept : (jobs more : List PlanJob) (n : List ℕ) → AllByRecursion (λ (j : PlanJob). is_among j.targets n ≡ false) more → numbers_of (jobs ++ more) n ≡ numbers_of jobs n
numbers_kept jobs more n h = numbers_append 0 jobs more n ∙ ap (λ (ks : List ℕ). numbers_of jobs n ++ ks) (numbers_none (0 + length jobs) more n h) ∙ append-nil (numbers_of jobs n)

-- ---- the prerequisites that remain, one more

module _ (is_open : List ℕ → Bool) (numbers : List ℕ → List ℕ) where
  pub pres_more : (xs ys : List Need) → pres is_open numbers (xs ++ ys) ≡ pres is_open numbers xs ++ pres is_open numbers ys
  pres_more xs ys = ap (map (pre numbers)) (filter-append (λ (n : Need). not (is_open n.name)) xs ys) ∙ map-append (pre numbers) (remaining is_open xs) (remaining is_open ys)

  pub normal_more : (xs ys : List Need) → pres is_open numbers (normal_ones (xs ++ ys)) ≡ pres is_open numbers (normal_ones xs) ++ pres is_open numbers (normal_ones ys)
  normal_more xs ys = ap (pres is_open numbers) (filter-append (λ (n : Need). not n.order) xs ys) ∙ pres_more (normal_ones xs) (normal_ones ys)

  pub order_more : (xs ys : List Need) → pres is_open numbers (order_only_ones (xs ++ ys)) ≡ pres is_open numbers (order_only_ones xs) ++ pres is_open numbers (order_only_ones ys)
  order_more xs ys = ap (pres is_open numbers) (filter-append (λ (n : Need). n.order) xs ys) ∙ pres_more (order_only_ones xs) (order_only_ones ys)

  pub jobs_more : (xs ys : List Need) → jobs_in (pres is_open numbers (xs ++ ys)) ≡ jobs_in (pres is_open numbers xs) ++ jobs_in (pres is_open numbers ys)
  jobs_more xs ys = ap jobs_in (pres_more xs ys) ∙ flat_map-append (λ (p : Pre). p.jobs) (pres is_open numbers xs) (pres is_open numbers ys)
