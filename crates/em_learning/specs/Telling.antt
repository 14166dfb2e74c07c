-- The report of a build.
--     report_of jobs waits notes fuel status      a line for each note, with its job's target, waits and fuel
use Rattle.std.specs.Prelude.{ℕ, List, map, Option, Some, None, zip}
use Rattle.em_engine.specs.declared.note.Cause.{Cause}
use Rattle.em_engine.specs.declared.note.Cause.TheVariants as cause
use Rattle.em_engine.specs.declared.note.Note.{Note}
use Rattle.em_plan.specs.declared.planned.PlanJob.{PlanJob}
use Rattle.em_report.specs.declared.report.CauseWord.{CauseWord}
use Rattle.em_report.specs.declared.report.CauseWord.TheVariants as word
use Rattle.em_report.specs.declared.report.Report.{Report}
use Rattle.em_report.specs.declared.report.ReportLine.{ReportLine}

abbrev pub word_for : Option Cause → CauseWord
word_for None = word.Clean
word_for (Some (cause.Differ place question recorded now after)) = word.Differ
word_for (Some (cause.Strange place board run)) = word.Strange
word_for (Some cause.Foreign) = word.Foreign
word_for (Some cause.WantOfMemory) = word.Memory

abbrev pub line_of : (PlanJob × List ℕ) × (Note × ℕ) → ReportLine
line_of ((job, waits), (note, fuel)) = record {
  job = note.job;
  runs = note.runs;
  cause = word_for note.cause;
  fuel = fuel;
  target = job.target;
  waits = waits;
}

-- the jobs of the serial run are the first of the plan
unfoldable pub report_of : List PlanJob → List (List ℕ) → List Note → List ℕ → ℕ → Report
report_of jobs waits notes fuel status = record { lines = map line_of (zip (zip jobs waits) (zip notes fuel)); status = status }
