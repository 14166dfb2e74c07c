-- What is said of a report under `--explain`, which ends the run: nothing is built or replaced.
--     explained order      where a report is to be explained: its text is taken and read, and what it tells is said
use Rattle.std.specs.Prelude.{ℕ, List, Option, Some, None, Result, Ok, Err}
use Rattle.em_cmdline.specs.declared.order.Order.{Order}
use Rattle.em_insight.specs.declared.no.InsightNo.{InsightNo}
use Rattle.em_insight.specs.Jobs.{refusal}
use Rattle.em_insight.specs.Telling.{explanation}
use Rattle.em_report.specs.declared.report.Report.{Report}
use Rattle.em_report.specs.declared.report.ReportLine.{ReportLine}
use Rattle.em_report.specs.Reading.{reading}
use Rattle.em_program.specs.declared.verdict.BuildStatus.TheVariants.{Done, Faulty}
use Rattle.em_program.specs.Course.{Course, ◌>>=◌, done, take, stop}
use Rattle.em_program.specs.Messages.{no_report, report_line, insight_line}

abbrev pub as_taken : Option (List ℕ) → Course (List ℕ)
as_taken None = stop no_report Faulty
as_taken (Some bytes) = done bytes

-- its bytes
abbrev pub report_in : List ℕ → Course (List ℕ)
report_in name = take name >>= as_taken

abbrev pub as_read : Result Report ℕ → Course Report
as_read (Ok report) = done report
as_read (Err at) = stop (report_line at) Faulty

-- the report that they tell
abbrev pub report_of : List ℕ → Course Report
report_of bytes = as_read (reading bytes)

abbrev pub as_told : Option InsightNo → ℕ → List ReportLine → Course (Unit {0})
as_told None agents lines = stop (explanation lines agents) Done
as_told (Some e) agents lines = stop (insight_line e) Faulty

abbrev pub told_of : ℕ → List ReportLine → Course (Unit {0})
told_of agents lines = as_told (refusal lines) agents lines

abbrev pub explained_of : Option (List ℕ) → ℕ → Course (Unit {0})
explained_of None agents = done tt
explained_of (Some name) agents = do
  bytes ← report_in name
  report ← report_of bytes
  told_of agents report.lines

abbrev pub explained : Order → Course (Unit {0})
explained o = explained_of o.explain o.agents
