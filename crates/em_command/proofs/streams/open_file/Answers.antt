use Rattle.em_view.proofs.Performing.{finish}
use Rattle.em_command.proofs.streams.open_file.Goals as goal

pub returns-in-Duplicate : goal.returns-in-Duplicate
returns-in-Duplicate g c = rw c.in-Duplicate.is finish
