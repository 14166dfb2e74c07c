use Rattle.em_history.proofs.Placing.{history_none}
use Rattle.em_history.proofs.history.History.new.Goals as goal

pub invariant_of-result : goal.invariant_of-result
invariant_of-result c = rw c.new.ensures.items history_none
