use Rattle.em_laws.proofs.Allowing.{content_cost, content_true, kind_cost, kind_true, names_cost, names_told, outcome_cost, outcome_told, stamp_cost, stamp_true}
use Rattle.em_laws.proofs.desk.law_tell.Goals as goal

pub returns-clause-kind : goal.returns-clause-kind
returns-clause-kind c = kind_true

pub returns-clause-kind_cost : goal.returns-clause-kind_cost
returns-clause-kind_cost c = kind_cost

pub returns-clause-stamp : goal.returns-clause-stamp
returns-clause-stamp c = stamp_true

pub returns-clause-stamp_cost : goal.returns-clause-stamp_cost
returns-clause-stamp_cost c = stamp_cost

pub returns-clause-content : goal.returns-clause-content
returns-clause-content c = content_true

pub returns-clause-content_cost : goal.returns-clause-content_cost
returns-clause-content_cost c = content_cost

pub returns-clause-names : goal.returns-clause-names
returns-clause-names c = names_told

pub returns-clause-names_cost : goal.returns-clause-names_cost
returns-clause-names_cost c = names_cost

pub returns-clause-outcome : goal.returns-clause-outcome
returns-clause-outcome c = outcome_told

pub returns-clause-outcome_cost : goal.returns-clause-outcome_cost
returns-clause-outcome_cost c = outcome_cost
