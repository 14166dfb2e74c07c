-- For which jobs a job waits, once a history is known.
--     is_paired old t u        the history pairs the target t with the name u
--     waits_with old jobs      of each job, in order, the jobs below it that it waits for by the plan or whose target the history pairs with its own
--     ArePlanned jobs          what a plan's jobs are: the waits rise and stand below. Several jobs may have one target, as those of
--                              double-colon rules have
use Rattle.std.specs.Prelude.{◌<◌, ◌^◌, ℕ, zero, suc, ◌&&◌, ◌||◌, Bool, false, nat_eq, List, [], ◌∷◌, ◌++◌, Option, Some, None, IfSome, All, length, slice_get}
use Rattle.std.specs.List.{filter, list_any}
use Rattle.std.specs.List.Sorted.{IsStrictlySortedBy}
use Rattle.std.specs.Ordering.{nat_cmp}
use Rattle.std.specs.Str.{bytes_eq}
use Rattle.em_history.specs.Histories.{Pair}
use Rattle.em_plan.specs.declared.planned.PlanJob.{PlanJob}

abbrev pub is_paired : List Pair → List ℕ → List ℕ → Bool
is_paired old t u = list_any (λ p. bytes_eq p.0 t && bytes_eq p.1 u) old

abbrev pub is_paired_job : List Pair → List ℕ → Option PlanJob → Bool
is_paired_job old t (Some job) = is_paired old t job.target
is_paired_job old t None = false

-- 0, 1, .. n - 1
abbrev pub below : ℕ → List ℕ
below zero = []
below (suc n) = below n ++ n ∷ []

module _ (old : List Pair) (jobs : List PlanJob) where
  abbrev pub is_needed : PlanJob → ℕ → Bool
  is_needed job k = list_any (nat_eq k) job.waits || is_paired_job old job.target (slice_get jobs k)

  abbrev pub waits_from : ℕ → List PlanJob → List (List ℕ)
  waits_from n [] = []
  waits_from n (job ∷ later) = filter (is_needed job) (below n) ∷ waits_from (suc n) later

unfoldable pub waits_with : List Pair → List PlanJob → List (List ℕ)
waits_with old jobs = waits_from old jobs 0 jobs

abbrev pub IsPlanned : ℕ → PlanJob → Type 0
IsPlanned k job = IsStrictlySortedBy nat_cmp job.waits × All (λ i. i < k) job.waits

pub record ArePlanned (jobs : List PlanJob) : Type 0 where
  pub few : length jobs < 2 ^ 32
  pub waits : (k : ℕ) → IfSome (slice_get jobs k) (IsPlanned k)
