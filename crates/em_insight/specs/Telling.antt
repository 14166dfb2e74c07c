-- What is said of a report.
--     explanation ls agents      the critical path with its weight and targets, the fuel of all jobs, and the span of the schedule
use Rattle.std.specs.Prelude.{ℕ, List, [], ◌∷◌, ◌++◌, codes, decimal, slice_get}
use Rattle.std.specs.Option.{option_map_or}
use Rattle.em_report.specs.declared.report.ReportLine.{ReportLine}
use Rattle.em_insight.specs.Chains.{weight}
use Rattle.em_insight.specs.Found.{path_of, slots_of}
use Rattle.em_insight.specs.Jobs.{total}
use Rattle.em_insight.specs.Schedules.{span}

module _ (ls : List ReportLine) where
  abbrev pub target_at : ℕ → List ℕ
  target_at j = option_map_or (λ l. l.target) (slice_get ls j) []

  -- each behind a blank (32)
  abbrev pub targets : List ℕ → List ℕ
  targets [] = []
  targets (j ∷ js) = (32 ∷ target_at j) ++ targets js

  abbrev pub explanation : ℕ → List ℕ
  explanation agents =
      codes "chain " ++ decimal (weight ls (path_of ls)) ++ codes ":" ++ targets (path_of ls)
      ++ codes "\ntotal " ++ decimal (total ls)
      ++ codes "\nagents " ++ decimal agents ++ codes " span " ++ decimal (span ls (slots_of ls agents)) ++ codes "\n"
