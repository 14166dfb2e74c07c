use Rattle.em_program.proofs.Following.{then, leave, quits}
use Rattle.em_program.proofs.say.stop.Goals as goal

pub returns-in_err-say-clause-told : goal.returns-in_err-say-clause-told
returns-in_err-say-clause-told g c = leave _ c.from_residual.ensures.1 c.in_err-say.ensures.told

pub returns-clause-told : goal.returns-clause-told
returns-clause-told g c = then _ c.in_ok-say.ensures.told quits
