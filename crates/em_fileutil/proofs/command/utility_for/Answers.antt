use Rattle.em_view.proofs.Performing.{finish}
use Rattle.em_fileutil.proofs.command.utility_for.Goals as goal

pub returns-in-Some : goal.returns-in-Some
returns-in-Some g c = rw (← c.utility_of.ensures, c.in-Some.is) c.utility_by.ensures

pub returns-in-None : goal.returns-in-None
returns-in-None g c = rw (← c.utility_of.ensures, c.in-None.is) finish
