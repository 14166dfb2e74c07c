use Rattle.std.proofs.Common.{◌≡◌, ◌∙◌, ℕ, List, Result, Ok, Err, ap}
use Rattle.std.specs.Prelude.{IfOk, IsErrOf}
use Rattle.em_report.specs.declared.no.ReportNo.{ReportNo}
use Rattle.em_report.specs.declared.no.ReportNo.TheVariants as no
use Rattle.em_report.specs.declared.report.Report.{Report}
use Rattle.em_report.specs.Reports.{report_text, IsReport, IsFault}
use Rattle.em_report.specs.Parts.{Gives}
use Rattle.em_report.specs.Reading.{reading}
use Rattle.em_report.proofs.Faults.{reading_answers}
use Rattle.em_report.proofs.reading.read.Goals as goal

pub returns-clause-report : goal.returns-clause-report
returns-clause-report c = by c.args.bytes.now c.whole.result c.whole.ensures
  where
    by : (bytes : List ℕ) (r : Result Report ReportNo) → Gives (λ x. x) r (reading bytes) → IfOk r IsReport
    by bytes (Ok x) g = ((reading_answers bytes).ok x g).0
    by bytes (Err e) g = tt

pub returns-clause-text : goal.returns-clause-text
returns-clause-text c = by c.args.bytes.now c.whole.result c.whole.ensures
  where
    by : (bytes : List ℕ) (r : Result Report ReportNo) → Gives (λ x. x) r (reading bytes) → IfOk r (λ x. report_text x ≡ bytes)
    by bytes (Ok x) g = ((reading_answers bytes).ok x g).1
    by bytes (Err e) g = tt

pub returns-clause-fault : goal.returns-clause-fault
returns-clause-fault c = by c.args.bytes.now c.whole.result c.whole.ensures
  where
    by : (bytes : List ℕ) (r : Result Report ReportNo) → Gives (λ x. x) r (reading bytes) → (at : ℕ) → IsErrOf r (no.Form at) → IsFault bytes at
    by bytes (Ok x) g at e = absurd cc
    by bytes (Err (no.Form n)) g at e = let same : n ≡ at = cc in (reading_answers bytes).fault at (g ∙ ap (λ (k : ℕ). Err k) same)
    by bytes (Err no.NoMemory) g at e = absurd cc
