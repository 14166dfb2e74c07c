use Rattle.em_view.proofs.Doing.{finish_s}
use Rattle.em_job.proofs.environment.hand_entry.Goals as goal

pub returns-in-Some : goal.returns-in-Some
returns-in-Some g c = rw (← (rw c.vars.ensures at c.at.ensures), c.in-Some.is) c.hand.ensures

pub returns-in-None : goal.returns-in-None
returns-in-None g c = rw (← (rw c.vars.ensures at c.at.ensures), c.in-None.is) finish_s
