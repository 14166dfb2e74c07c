use Rattle.em_textutil.proofs.Seeking.{gave}
use Rattle.em_textutil.proofs.command.run.Goals as goal

pub returns-in-Plain : goal.returns-in-Plain
returns-in-Plain g c = rw c.in-Plain.is (gave _ _ c.plain_done.ensures)
