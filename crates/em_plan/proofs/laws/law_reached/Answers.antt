use Rattle.em_plan.proofs.Reaching.{reached_only, reached_each}
use Rattle.em_plan.proofs.laws.law_reached.Goals as goal

pub returns-clause-only : goal.returns-clause-only
returns-clause-only c = λ says goals p e n there. reached_only says goals p e n there

pub returns-clause-each : goal.returns-clause-each
returns-clause-each c = λ says goals p facts plain e n r. reached_each says facts plain goals p e n r
