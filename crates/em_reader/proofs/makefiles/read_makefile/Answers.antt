use Rattle.em_view.proofs.Doing.{finish_s}
use Rattle.em_reader.proofs.makefiles.read_makefile.Goals as goal

pub returns-in-None : goal.returns-in-None
returns-in-None g c = rw c.in-None.is finish_s
