use Rattle.em_plan.specs.Serial.{StandsBefore}
use Rattle.em_plan.proofs.Lists.{each_place}
use Rattle.em_plan.proofs.Serial.{plan_made, pres_before}
use Rattle.em_plan.proofs.laws.law_prerequisites_stand_before.Goals as goal

pub returns-clause-normal : goal.returns-clause-normal
returns-clause-normal c = λ says goals p e k job at. each_place (StandsBefore p.jobs k) job.normal (pres_before p.jobs (plan_made says goals p e) k job at).0

pub returns-clause-order : goal.returns-clause-order
returns-clause-order c = λ says goals p e k job at. each_place (StandsBefore p.jobs k) job.order (pres_before p.jobs (plan_made says goals p e) k job at).1
