-- A report read from the left: the report whose text it is, or the first byte at which none goes
-- on.
use Rattle.std.specs.Prelude.{ℕ, zero, suc, ◌-◌, ◌^◌, ◌==◌, List, [], ◌∷◌, length, codes, Result, Ok, Err, if◌then◌else◌}
use Rattle.em_report.specs.declared.report.Report.{Report}
use Rattle.em_report.specs.declared.report.ReportLine.{ReportLine}
use Rattle.em_report.specs.Parts.{◌>>=◌, Here, here, text_at, spaced, number_at, runs_at, cause_at, name_at, waits_at}

unfoldable pub line_at : Here → Result (ReportLine × Here) ℕ
line_at h = do
  head ← text_at (codes "job ") h
  job ← spaced (number_at (2 ^ 32 - 1) head.1)
  runs ← spaced (runs_at job.1)
  cause ← spaced (cause_at runs.1)
  fuel ← spaced (number_at (2 ^ 64 - 1) cause.1)
  target ← name_at fuel.1
  waits ← waits_at (length target.1.rest) target.1
  Ok (record { job = job.0; runs = runs.0; cause = cause.0; fuel = fuel.0; target = target.0; waits = waits.0 }, waits.1)

-- the first byte, and 0 where there is none: no text of a report has that
abbrev pub next : List ℕ → ℕ
next [] = 0
next (c ∷ cs) = c

-- up to so many lines, each of which begins with `j`
unfoldable pub lines_at : ℕ → Here → Result (List ReportLine × Here) ℕ
lines_at zero h = Ok ([], h)
lines_at (suc k) h = if next h.rest == 106 then (line_at h >>= λ l. lines_at k l.1 >>= λ ls. Ok (l.0 ∷ ls.0, ls.1)) else Ok ([], h)

-- the last lines
unfoldable pub status_at : Here → Result (ℕ × Here) ℕ
status_at h = do
  word ← text_at (codes "status ") h
  status ← number_at (2 ^ 8 - 1) word.1
  end ← text_at (codes "\n.\n") status.1
  Ok (status.0, end.1)

unfoldable pub report_at : Here → Result (Report × Here) ℕ
report_at h = do
  head ← text_at (codes "EMREPORT 1\n") h
  lines ← lines_at (length head.1.rest) head.1
  status ← status_at lines.1
  Ok (record { lines = lines.0; status = status.0 }, status.1)

unfoldable pub reading : List ℕ → Result Report ℕ
reading bytes = report_at (here 0 bytes) >>= λ r. if length r.1.rest == 0 then Ok r.0 else Err r.1.at
