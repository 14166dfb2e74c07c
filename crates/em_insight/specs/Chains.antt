-- Chains of jobs that waited for one another, and the critical path.
--     IsChain ls js        the jobs rise, and each but the first waited for the one before it
--     weight ls js         what they took together
--     Certifies ls c       c is a chain of its weight, and its ends show that none is heavier
--     IsNamed ls c         of the chains of that weight it is the first: by the last job, then by the one before it, and so on
use Rattle.std.specs.Prelude.{◌≡◌, ℕ, ◌+◌, ◌<◌, ◌≤◌, ◌==◌, nat_lt, Bool, true, false, ◌||◌, ◌&&◌, List, [], ◌∷◌, length, reverse, get_or}
use Rattle.em_report.specs.declared.report.ReportLine.{ReportLine}
use Rattle.em_insight.specs.declared.data.Chain.{Chain}
use Rattle.em_insight.specs.Each.{Each, Any}
use Rattle.em_insight.specs.Jobs.{fuel_at, waits_at}

-- one list of numbers comes before the other: at the first place where they differ, or where one
-- ends, it is less or has ended
abbrev pub is_before : List ℕ → List ℕ → Bool
is_before xs [] = false
is_before [] (y ∷ ys) = true
is_before (x ∷ xs) (y ∷ ys) = nat_lt x y || x == y && is_before xs ys

module _ (ls : List ReportLine) where
  -- the list without jobs is a chain, too
  abbrev pub IsChain : List ℕ → Type 0
  IsChain [] = Unit {0}
  IsChain (j ∷ []) = j < length ls
  IsChain (i ∷ j ∷ js) = (i < j) × Any (λ w. w ≡ i) (waits_at ls j) × IsChain (j ∷ js)

  abbrev pub weight : List ℕ → ℕ
  weight [] = 0
  weight (j ∷ js) = fuel_at ls j + weight js

  pub record Certifies (c : Chain) : Type 0 where
    pub chain : IsChain c.jobs
    pub fuel : weight c.jobs ≡ c.fuel
    pub count : length c.ends ≡ length ls
    -- a chain that ends with a job weighs no more than this, by those that end with what it waited
    -- for
    pub ends : (j : ℕ) → j < length ls → (fuel_at ls j ≤ get_or c.ends j 0) × Each (λ w. fuel_at ls j + get_or c.ends w 0 ≤ get_or c.ends j 0) (waits_at ls j)
    pub top : (j : ℕ) → get_or c.ends j 0 ≤ c.fuel

  abbrev pub IsNamed : Chain → Type 0
  IsNamed c = (js : List ℕ) → IsChain js → weight js ≡ c.fuel → is_before (reverse js) (reverse c.jobs) ≡ false
