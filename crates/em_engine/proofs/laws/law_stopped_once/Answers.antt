use Rattle.em_engine.proofs.Events.{stopped_once}
use Rattle.em_engine.proofs.laws.law_stopped_once.Goals as goal

pub returns : goal.returns
returns c start waits journal legal = stopped_once start waits journal legal
