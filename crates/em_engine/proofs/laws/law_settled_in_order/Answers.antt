use Rattle.em_engine.proofs.Lawful.{settled_in_order}
use Rattle.em_engine.proofs.laws.law_settled_in_order.Goals as goal

pub returns : goal.returns
returns c start waits journal i legal = settled_in_order start waits journal legal i
