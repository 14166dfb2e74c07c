-- A report: of each job in how many runs it was committed and why, what fuel it took, its target
-- and the jobs that it waited for; and the status.
--     report_text r        its text
--     IsReport r           its targets can stand in a line, each job had one run or two, and the numbers have their bounds
--     GoesOn text          some report's text begins so
--     IsFault bytes at     the bytes are no report's text, and at this byte no report goes on, but for the bytes before it one does
use Rattle.std.specs.Prelude.{◌≡◌, ◌≢◌, ◌<◌, ◌≤◌, ◌^◌, ◌+◌, ℕ, true, List, ◌++◌, length, take, codes, decimal, All, ◌⊎◌}
use Rattle.std.specs.List.{flat_map}
use Rattle.em_history.specs.Names.{is_name}
use Rattle.em_report.specs.declared.report.Report.{Report}
use Rattle.em_report.specs.declared.report.ReportLine.{ReportLine}
use Rattle.em_report.specs.declared.report.CauseWord.{CauseWord}
use Rattle.em_report.specs.declared.report.CauseWord.TheVariants as cause

abbrev pub word_of : CauseWord → List ℕ
word_of cause.Clean = codes "-"
word_of cause.Differ = codes "differ"
word_of cause.Strange = codes "strange"
word_of cause.Foreign = codes "foreign"
word_of cause.Memory = codes "memory"

abbrev pub wait_text : ℕ → List ℕ
wait_text job = codes " " ++ decimal job

abbrev pub line_text : ReportLine → List ℕ
line_text l =
    codes "job " ++ decimal l.job ++ codes " " ++ decimal l.runs ++ codes " " ++ word_of l.cause ++ codes " " ++ decimal l.fuel
    ++ codes " " ++ l.target ++ flat_map wait_text l.waits ++ codes "\n"

abbrev pub report_text : Report → List ℕ
report_text r = codes "EMREPORT 1\n" ++ flat_map line_text r.lines ++ codes "status " ++ decimal r.status ++ codes "\n.\n"

pub record IsLine (l : ReportLine) : Type 0 where
  pub job : l.job < 2 ^ 32
  pub runs : (l.runs ≡ 1) ⊎ (l.runs ≡ 2)
  pub fuel : l.fuel < 2 ^ 64
  pub target : is_name l.target ≡ true
  pub waits : All (λ w. w < 2 ^ 32) l.waits

pub record IsReport (r : Report) : Type 0 where
  pub lines : All IsLine r.lines
  pub status : r.status < 2 ^ 8

pub record GoesOn (text : List ℕ) : Type 0 where
  pub report : Report
  pub is : IsReport report
  pub rest : List ℕ
  pub begins : report_text report ≡ text ++ rest

pub record IsFault (bytes : List ℕ) (at : ℕ) : Type 0 where
  pub within : at ≤ length bytes
  pub before : GoesOn (take at bytes)
  -- a byte of the text, or its end, where it ends too early
  pub ends : at < length bytes → GoesOn (take (at + 1) bytes) → ⊥
  pub no_report : (r : Report) → IsReport r → report_text r ≢ bytes
