use Rattle.em_laws.proofs.Allowing.{spend_left, spend_ok}
use Rattle.em_laws.proofs.desk.law_spend.Goals as goal

pub returns-clause-ok : goal.returns-clause-ok
returns-clause-ok c = spend_ok

pub returns-clause-left : goal.returns-clause-left
returns-clause-left c = spend_left
