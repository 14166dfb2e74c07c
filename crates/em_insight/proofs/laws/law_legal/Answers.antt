use Rattle.em_insight.proofs.Started.{legal, one_schedule}
use Rattle.em_insight.proofs.laws.law_legal.Goals as goal

pub returns-clause-legal : goal.returns-clause-legal
returns-clause-legal c = legal

pub returns-clause-one : goal.returns-clause-one
returns-clause-one c = one_schedule
