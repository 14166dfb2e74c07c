use Rattle.em_engine.proofs.Lawful.{claimed_once}
use Rattle.em_engine.proofs.laws.law_claimed_once.Goals as goal

pub returns : goal.returns
returns c start waits journal j legal = claimed_once start waits j journal legal
