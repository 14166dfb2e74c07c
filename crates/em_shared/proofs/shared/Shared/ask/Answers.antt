use Rattle.em_shared.proofs.Answering.{answered}
use Rattle.em_shared.proofs.shared.Shared.ask.Goals as goal

pub returns : goal.returns
returns g c = answered _ _ _ c.ask.result c.ask.ensures.answer
