use Rattle.em_reader.proofs.Catching.{heard_ok, heard_err}
use Rattle.em_reader.proofs.hear.heard.Goals as goal

pub returns-in-Ok : goal.returns-in-Ok
returns-in-Ok g c = rw c.plain.ensures (heard_ok _ _ c.in-Ok.ensures)

pub returns-in-Err : goal.returns-in-Err
returns-in-Err g c = heard_err _ _ c.caught.ensures c.in-Err.ensures
