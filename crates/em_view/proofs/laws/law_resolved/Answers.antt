use Rattle.em_view.proofs.Walking.{bare}
use Rattle.em_view.proofs.Leading.{leads, leads_laid}
use Rattle.em_view.proofs.laws.law_resolved.Goals as goal

pub returns-clause-bare : goal.returns-clause-bare
returns-clause-bare c = λ o none. bare o none

pub returns-clause-leads : goal.returns-clause-leads
returns-clause-leads c = λ o ls d tells. leads o ls d tells

pub returns-clause-snapshot : goal.returns-clause-snapshot
returns-clause-snapshot c = leads_laid
