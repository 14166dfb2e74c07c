use Rattle.em_plan.proofs.Offering.{offers_stop}
use Rattle.em_plan.proofs.making.RuleContext.making_at.Goals as goal

pub returns-in_err-making-clause-next : goal.returns-in_err-making-clause-next
returns-in_err-making-clause-next g c = offers_stop g.T.There.asks _ _ c.from_residual.ensures.1 c.in_err-making.ensures.next
