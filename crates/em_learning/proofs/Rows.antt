-- The waits of a job: what the plan and the history say, sorted, are those below it that are
-- needed.
--     waits_are, waits_none       with a history, and without
use Rattle.std.proofs.Common.{◌≡◌, ℕ, zero, suc, ◌+◌, ◌<◌, ◌&&◌, ◌||◌, Bool, true, false, nat_eq, nat_lt, List, [], ◌∷◌, ◌++◌, length, map, slice_get, Option, Some, None, All, arith, refl, sym, ap, subst, ◌∙◌, eqb-true}
use Rattle.std.specs.Prelude.{IfSome}
use Rattle.std.specs.Cmp.{unsigned_ties}
use Rattle.std.specs.FinMap.{nat_cmp-IsAntisymmetric}
use Rattle.std.specs.List.{AllByRecursion, filter, list_any}
use Rattle.std.specs.List.Sorted.{IsStrictlySortedBy}
use Rattle.std.specs.Option.{option_map}
use Rattle.std.specs.Ordering.{nat_cmp, eq_by_cmp}
use Rattle.std.specs.declared.cmp.Ordering.TheVariants.{Less}
use Rattle.std.specs.Str.{bytes_eq}
use Rattle.std.proofs.lemmas.Bool.Decides.{nat_tests}
use Rattle.std.proofs.lemmas.Cmp.{nat_cmp_total}
use Rattle.std.proofs.lemmas.Grind.{common_steps}
use Rattle.std.proofs.lemmas.List.{append-nil}
use Rattle.std.proofs.lemmas.List.Folds.{Any-from_list_any, list_any-append}
use Rattle.std.proofs.lemmas.List.Kept.{IsStrictlySortedBy-filter}
use Rattle.std.proofs.lemmas.Map.Views.{any-filter_same}
use Rattle.std.proofs.lemmas.Option.{slice_get-map}
use Rattle.em_base.proofs.Lemmas.{all_push, in_order_is}
use Rattle.em_history.specs.Histories.{Pair}
use Rattle.em_plan.specs.declared.planned.PlanJob.{PlanJob}
use Rattle.em_plan.specs.Jobs.{rising}
use Rattle.em_learning.specs.Waits.{ArePlanned, IsPlanned, below, is_needed, is_paired_job, waits_from, waits_with}
use Rattle.em_learning.specs.Links.{AreNumbers, is_target, lower, added_to, added_by, added}

-- ---- the numbers below one

is_less : (x n : ℕ) → x < n → nat_cmp x n ≡ Less
is_less x n low = grind (arith, nat_tests)

all_further : (n : ℕ) (xs : List ℕ) → AllByRecursion (λ x. x < n) xs → AllByRecursion (λ x. x < suc n) xs
all_further n [] h = tt
all_further n (x ∷ xs) h = (omega (arith, h.0), all_further n xs h.1)

all_below : (n : ℕ) → AllByRecursion (λ x. x < n) (below n)
all_below zero = tt
all_below (suc n) = all_push (λ x. x < suc n) (below n) n (all_further n (below n) (all_below n)) (omega arith)

rises_push : (xs : List ℕ) (n : ℕ) → AllByRecursion (λ x. x < n) xs → IsStrictlySortedBy nat_cmp xs → IsStrictlySortedBy nat_cmp (xs ++ n ∷ [])
unfolding IsStrictlySortedBy
rises_push [] n low up = (tt, tt)
rises_push (x ∷ xs) n low up = (all_push (λ y. nat_cmp x y ≡ Less) xs n up.0 (is_less x n low.0), rises_push xs n low.1 up.1)

below_rises : (n : ℕ) → IsStrictlySortedBy nat_cmp (below n)
unfolding IsStrictlySortedBy
below_rises zero = tt
below_rises (suc n) = rises_push (below n) n (all_below n) (below_rises n)

is_below : (q n : ℕ) → list_any (nat_eq q) (below n) ≡ nat_lt q n
is_below q zero = grind (arith, nat_tests)
is_below q (suc n) = grind (arith, nat_tests, list_any-append, is_below q n)

-- ---- one job

none_above : (waits : List ℕ) (k q : ℕ) → All (λ i. i < k) waits → nat_lt q k ≡ false → list_any (nat_eq q) waits ≡ false
none_above waits k q low above = grind (arith, common_steps, nat_tests, Any-from_list_any (nat_eq q) waits, low)

ties : (q : ℕ) (xs : List ℕ) → list_any (nat_eq q) xs ≡ list_any (eq_by_cmp nat_cmp q) xs
ties q xs = λ i. list_any (λ x. unsigned_ties q x i) xs

split : (w m p l : Bool) → m ≡ (l && p) → (l ≡ false → w ≡ false) → ((w || p) && l) ≡ (w || m)
split w m p l e none = grind arith

row_is : (waits more : List ℕ) (k : ℕ) (paired : ℕ → Bool) → All (λ i. i < k) waits
    → ((q : ℕ) → list_any (nat_eq q) more ≡ (nat_lt q k && paired q))
    → rising (waits ++ more) ≡ filter (λ q. list_any (nat_eq q) waits || paired q) (below k)
row_is waits more k paired low has =
    let needed : ℕ → Bool = λ q. list_any (nat_eq q) waits || paired q in
    sym (in_order_is nat_cmp nat_cmp_total nat_cmp-IsAntisymmetric (waits ++ more) (filter needed (below k))
    (IsStrictlySortedBy-filter nat_cmp needed (below k) (below_rises k))
    (λ q. sym (ties q (filter needed (below k)))
    ∙ any-filter_same (nat_eq q) needed (needed q) (λ i is. ap needed (sym (eqb-true q i is))) (below k) ∙ ap (λ b. needed q && b) (is_below q k)
    ∙ split (list_any (nat_eq q) waits) (list_any (nat_eq q) more) (paired q) (nat_lt q k) (has q) (none_above waits k q low)
    ∙ sym (list_any-append (nat_eq q) waits more) ∙ ties q (waits ++ more)))

-- ---- what a history adds

lower_has : (m q : ℕ) (needed : List ℕ) → list_any (nat_eq q) (lower m needed) ≡ (nat_lt q m && list_any (nat_eq q) needed)
lower_has m q needed = any-filter_same (nat_eq q) (λ n. nat_lt n m) (nat_lt q m) (λ n is. ap (λ x. nat_lt x m) (sym (eqb-true q n is))) needed

added_one : (k q m : ℕ) (needed : List ℕ) → list_any (nat_eq q) (added_to k needed m) ≡ (nat_lt q k && (nat_eq k m && list_any (nat_eq q) needed))
added_one k q m needed = grind (arith, nat_tests, lower_has m q needed)

added_finds : (made needed : List ℕ) (k q : ℕ) → list_any (nat_eq q) (added_by k made needed) ≡ (nat_lt q k && (list_any (nat_eq k) made && list_any (nat_eq q) needed))
added_finds [] needed k q = grind arith
added_finds (m ∷ made) needed k q = grind (arith, list_any-append (nat_eq q) (added_to k needed m) (added_by k made needed), added_one k q m needed, added_finds made needed k q)

paired_more : (p : Pair) (ps : List Pair) (t : List ℕ) (o : Option PlanJob) → ((bytes_eq p.0 t && is_target p.1 o) || is_paired_job ps t o) ≡ is_paired_job (p ∷ ps) t o
paired_more p ps t None = grind arith
paired_more p ps t (Some job) = refl

paired_none : (t : List ℕ) (l : Bool) (o : Option PlanJob) → false ≡ (l && is_paired_job [] t o)
paired_none t l None = grind arith
paired_none t l (Some job) = grind arith

module _ (jobs : List PlanJob) where
  added_has : (numbers : List ℕ → List ℕ) → AreNumbers numbers jobs → (k : ℕ) (job : PlanJob) → slice_get jobs k ≡ Some job → (old : List Pair) (q : ℕ)
      → list_any (nat_eq q) (added numbers old k) ≡ (nat_lt q k && is_paired_job old job.target (slice_get jobs q))
  added_has numbers are k job at [] q = paired_none job.target (nat_lt q k) (slice_get jobs q)
  added_has numbers are k job at (p ∷ ps) q =
      let made : list_any (nat_eq k) (numbers p.0) ≡ bytes_eq p.0 job.target = are.found p.0 k ∙ ap (is_target p.0) at in
      grind (arith, list_any-append (nat_eq q) (added_by k (numbers p.0) (numbers p.1)) (added numbers ps k), added_finds (numbers p.0) (numbers p.1) k q, added_has numbers are k job at ps q, made, are.found p.1 q, paired_more p ps job.target (slice_get jobs q))

  -- ---- all jobs

  rows_are : (old : List Pair) (rows : List (List ℕ)) (later : List PlanJob) (n : ℕ)
      → ((k : ℕ) → slice_get rows k ≡ option_map (λ job. filter (is_needed old jobs job) (below (n + k))) (slice_get later k)) → rows ≡ waits_from old jobs n later
  rows_are old [] [] n at = refl
  rows_are old [] (job ∷ later) n at = grind (arith, at 0)
  rows_are old (row ∷ rows) [] n at = grind (arith, at 0)
  rows_are old (row ∷ rows) (job ∷ later) n at =
      let first : row ≡ filter (is_needed old jobs job) (below n) = grind (arith, at 0) in
      let rest = rows_are old rows later (suc n) (λ k. grind (arith, at (suc k))) in
      cc

  module _ (planned : ArePlanned jobs) where
    -- each row is what it is to be, where it is so at each job that is there
    each : (old : List Pair) (f : ℕ → List ℕ → List ℕ) → ((k : ℕ) (job : PlanJob) → slice_get jobs k ≡ Some job → IsPlanned k job → f k job.waits ≡ filter (is_needed old jobs job) (below k))
        → (rows : List (List ℕ)) → ((k : ℕ) → slice_get rows k ≡ option_map (f k) (slice_get (map (λ (j : PlanJob). j.waits) jobs) k)) → rows ≡ waits_with old jobs
    unfolding waits_with
    each old f is rows at = rows_are old rows jobs 0 (λ k. at k ∙ ap (option_map (f k)) (slice_get-map (λ (j : PlanJob). j.waits) jobs k) ∙ row k (slice_get jobs k) refl)
      where
        row : (k : ℕ) (o : Option PlanJob) → slice_get jobs k ≡ o → option_map (f k) (option_map (λ (j : PlanJob). j.waits) o) ≡ option_map (λ job. filter (is_needed old jobs job) (below (0 + k))) o
        row k None there = refl
        row k (Some job) there = ap (λ (w : List ℕ). Some w) (is k job there (subst (λ o. IfSome o (IsPlanned k)) there (planned.waits k))
            ∙ ap (λ m. filter (is_needed old jobs job) (below m)) (let e : k ≡ 0 + k = omega arith in e))

    pub waits_are : (old : List Pair) (numbers : List ℕ → List ℕ) → AreNumbers numbers jobs → (rows : List (List ℕ))
        → ((k : ℕ) → slice_get rows k ≡ option_map (λ (w : List ℕ). w ++ added numbers old k) (slice_get (map (λ (j : PlanJob). j.waits) jobs) k)) → map rising rows ≡ waits_with old jobs
    waits_are old numbers are rows at = each old (λ k w. rising (w ++ added numbers old k))
        (λ k job there is. row_is job.waits (added numbers old k) k (λ q. is_paired_job old job.target (slice_get jobs q)) is.1 (added_has numbers are k job there old))
        (map rising rows) (λ k. grind (arith, at k, slice_get-map rising rows k))

    pub waits_none : map (λ (j : PlanJob). j.waits) jobs ≡ waits_with [] jobs
    waits_none = each [] (λ k w. w)
        (λ k job there is. in_order_is nat_cmp nat_cmp_total nat_cmp-IsAntisymmetric job.waits job.waits is.0 (λ q. refl) ∙ ap rising (sym (append-nil job.waits))
        ∙ row_is job.waits [] k (λ q. is_paired_job [] job.target (slice_get jobs q)) is.1 (λ q. paired_none job.target (nat_lt q k) (slice_get jobs q)))
        (map (λ (j : PlanJob). j.waits) jobs) (λ k. grind arith)

pub no_pairs : (old : List Pair) → nat_eq (length old) 0 ≡ true → old ≡ []
no_pairs [] h = refl
no_pairs (p ∷ ps) h = grind (arith, nat_tests)
