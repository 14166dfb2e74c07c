-- How a critical path is found: for each job the heaviest chain that ends with it, by the leader of
-- what it waited for.
--     IsLead es M l              l is the leader of the jobs that M holds of, whose weights are es
--     Linked ls n es before      of each of the first n jobs the weight, and the job before it in such a chain
--     IsWalk before last js      js are the jobs from the last on, each behind the next
use Rattle.std.specs.Prelude.{◌≡◌, ℕ, ◌+◌, ◌<◌, ◌≤◌, List, [], ◌∷◌, length, get_or, take, Option, Some, None}
use Rattle.em_report.specs.declared.report.ReportLine.{ReportLine}
use Rattle.em_insight.specs.declared.lead.Lead.{Lead}
use Rattle.em_insight.specs.Each.{Any}
use Rattle.em_insight.specs.Jobs.{fuel_at, waits_at, total}

-- the least job of the greatest weight
abbrev pub Leads : List ℕ → (ℕ → Type 0) → ℕ → Option ℕ → Type 0
Leads es M weight None = weight ≡ 0
Leads es M weight (Some v) = M v × (get_or es v 0 ≡ weight) × (0 < weight) × ((w : ℕ) → M w → get_or es w 0 ≡ weight → v ≤ w)

pub record IsLead (es : List ℕ) (M : ℕ → Type 0) (lead : Lead) : Type 0 where
  pub most : (w : ℕ) → M w → get_or es w 0 ≤ lead.weight
  pub least : Leads es M lead.weight lead.job

pub record IsLink (ls : List ReportLine) (es : List ℕ) (j : ℕ) (before : Option ℕ) : Type 0 where
  pub weight : ℕ
  pub end : get_or es j 0 ≡ fuel_at ls j + weight
  pub lead : IsLead es (λ w. Any (λ v. v ≡ w) (waits_at ls j)) (record { weight = weight; job = before })

pub record Linked (ls : List ReportLine) (n : ℕ) (es : List ℕ) (before : List (Option ℕ)) : Type 0 where
  pub ends : length es ≡ n
  pub befores : length before ≡ n
  pub few : (j : ℕ) → get_or es j 0 ≤ total (take n ls)
  pub links : (j : ℕ) → j < n → IsLink ls es j (get_or before j None)

abbrev pub IsWalk : List (Option ℕ) → Option ℕ → List ℕ → Type 0
IsWalk before last [] = last ≡ None
IsWalk before last (j ∷ js) = (last ≡ Some j) × IsWalk before (get_or before j None) js
