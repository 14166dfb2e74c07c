use Rattle.em_report.proofs.Faults.{one_report, one_fault}
use Rattle.em_report.proofs.laws.law_one_report.Goals as goal

pub returns-clause-report : goal.returns-clause-report
returns-clause-report c = one_report

pub returns-clause-fault : goal.returns-clause-fault
returns-clause-fault c = one_fault
