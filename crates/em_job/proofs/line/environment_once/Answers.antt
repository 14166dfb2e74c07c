use Rattle.em_view.proofs.Doing.{finish_s}
use Rattle.em_job.proofs.line.environment_once.Goals as goal

pub returns-in-Some : goal.returns-in-Some
returns-in-Some g c = rw c.in-Some.is finish_s

pub returns-in-None : goal.returns-in-None
returns-in-None g c = rw c.in-None.is c.environment.ensures
