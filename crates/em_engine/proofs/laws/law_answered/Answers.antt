use Rattle.em_engine.proofs.Lawful.{answered}
use Rattle.em_engine.proofs.laws.law_answered.Goals as goal

pub returns : goal.returns
returns c start waits before rest j e legal = answered start waits before rest j e legal
