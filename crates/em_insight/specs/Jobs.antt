-- The jobs of a report: the line at a place is that job's.
--     fuel_at ls j, waits_at ls j      what job j took, and the jobs that it waited for
--     total ls                         what all jobs took together
--     refusal ls                       why the lines are not looked into, where they aren't
use Rattle.std.specs.Prelude.{ℕ, ◌+◌, ◌^◌, Bool, ◌&&◌, ◌==◌, nat_lt, List, [], ◌∷◌, slice_get, Option, Some, None, if◌then◌else◌}
use Rattle.std.specs.List.{list_all}
use Rattle.std.specs.Option.{option_map_or}
use Rattle.em_report.specs.declared.report.ReportLine.{ReportLine}
use Rattle.em_insight.specs.declared.no.InsightNo.{InsightNo}
use Rattle.em_insight.specs.declared.no.InsightNo.TheVariants.{Order, Sum}

abbrev pub fuel_at : List ReportLine → ℕ → ℕ
fuel_at ls j = option_map_or (λ l. l.fuel) (slice_get ls j) 0

abbrev pub waits_at : List ReportLine → ℕ → List ℕ
waits_at ls j = option_map_or (λ l. l.waits) (slice_get ls j) []

abbrev pub total : List ReportLine → ℕ
total [] = 0
total (l ∷ ls) = l.fuel + total ls

-- the line of the job with this number, which waits for jobs below it alone
abbrev pub is_in_order : ℕ → ReportLine → Bool
is_in_order j l = l.job == j && list_all (λ w. nat_lt w j) l.waits

-- the first line, counted from i, that is none
abbrev pub out_of_order : ℕ → List ReportLine → Option ℕ
out_of_order i [] = None
out_of_order i (l ∷ ls) = if is_in_order i l then out_of_order (i + 1) ls else Some i

abbrev pub refusal_of : Option ℕ → ℕ → Option InsightNo
refusal_of (Some i) fuel = Some (Order i)
refusal_of None fuel = if nat_lt (2 ^ 62) fuel then Some Sum else None

abbrev pub refusal : List ReportLine → Option InsightNo
refusal ls = refusal_of (out_of_order 0 ls) (total ls)
