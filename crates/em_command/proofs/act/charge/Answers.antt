use Rattle.em_view.proofs.Primitives.{spend_alike, capped_cost}
use Rattle.em_command.proofs.act.charge.Goals as goal

pub returns : goal.returns
returns g c = spend_alike _ _ _ _ (capped_cost _ _ _ c.take.ensures.small c.total.ensures) (rw c.blocks-2.ensures at c.take.ensures.performs)
