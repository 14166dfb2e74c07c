use Rattle.em_plan.proofs.Serial.{plan_made, waits_rise, waits_below}
use Rattle.em_plan.proofs.laws.law_waits.Goals as goal

pub returns-clause-rise : goal.returns-clause-rise
returns-clause-rise c = λ says goals p e k job at. waits_rise p.jobs (plan_made says goals p e) k job at

pub returns-clause-below : goal.returns-clause-below
returns-clause-below c = λ says goals p e k job at. waits_below p.jobs (plan_made says goals p e) k job at
