use Rattle.em_engine.proofs.Events.{waited}
use Rattle.em_engine.proofs.laws.law_waited.Goals as goal

pub returns : goal.returns
returns c start waits before rest j legal = waited start waits j before rest legal
