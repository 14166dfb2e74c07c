use Rattle.em_program.proofs.Reaching.{reaches_work, reaches_count, stops}
use Rattle.em_program.proofs.top.run.Goals as goal

pub returns-in_err-site-clause-told : goal.returns-in_err-site-clause-told
returns-in_err-site-clause-told g c = stops _ _ c.from_residual.ensures.1 c.in_err-site.ensures.told

pub returns-in-None-clause-told : goal.returns-in-None-clause-told
returns-in-None-clause-told g c = reaches_work _ _ _ c.in_ok-site.ensures.new _ _ _ c.in-None.is c.in_ok-site.ensures.told c.work.ensures.told

pub returns-in-Some-clause-told : goal.returns-in-Some-clause-told
returns-in-Some-clause-told g c = reaches_count _ _ _ c.in_ok-site.ensures.new _ _ _ c.in-Some.is c.in_ok-site.ensures.told c.count.ensures.told
