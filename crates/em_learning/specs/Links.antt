-- How the pairs of a history are put to the jobs of a plan.
--     AreNumbers numbers jobs      by the target of each job its number is found, among those of other jobs of the name, and by no other name any
--     added_by k made needed       those of the numbers `needed` that are below k, where k is among those of `made`
--     added numbers old k          the jobs that a history pairs with job k, in the history's order
use Rattle.std.specs.Prelude.{◌≡◌, ◌==◌, ℕ, Bool, false, nat_eq, nat_lt, List, [], Option, Some, None, slice_get, if◌then◌else◌}
use Rattle.std.specs.List.{filter, flat_map, list_any}
use Rattle.std.specs.Str.{bytes_eq}
use Rattle.em_history.specs.Histories.{Pair}
use Rattle.em_plan.specs.declared.planned.PlanJob.{PlanJob}

-- the numbers of a name: none where it isn't in the table
abbrev pub listed : Option (List ℕ) → List ℕ
listed (Some numbers) = numbers
listed None = []

abbrev pub is_target : List ℕ → Option PlanJob → Bool
is_target name (Some job) = bytes_eq name job.target
is_target name None = false

pub record AreNumbers (numbers : List ℕ → List ℕ) (jobs : List PlanJob) : Type 0 where
  pub found : (name : List ℕ) (k : ℕ) → list_any (nat_eq k) (numbers name) ≡ is_target name (slice_get jobs k)

abbrev pub lower : ℕ → List ℕ → List ℕ
lower k needed = filter (λ n. nat_lt n k) needed

abbrev pub added_to : ℕ → List ℕ → ℕ → List ℕ
added_to k needed made = if made == k then lower made needed else []

abbrev pub added_by : ℕ → List ℕ → List ℕ → List ℕ
added_by k made needed = flat_map (added_to k needed) made

abbrev pub added : (List ℕ → List ℕ) → List Pair → ℕ → List ℕ
added numbers old k = flat_map (λ p. added_by k (numbers p.0) (numbers p.1)) old
