use Rattle.em_view.proofs.Doing.{below_ok, below_err}
use Rattle.em_reading.specs.Faults.{of_desk}
use Rattle.em_reader.proofs.States.{free_of_desk}
use Rattle.em_reader.proofs.files.bytes_at.Goals as goal

pub returns-in-Ok : goal.returns-in-Ok
returns-in-Ok g c = below_ok (of_desk c.args.place.now) c.in-Ok.ensures.performs

pub returns-in-Err : goal.returns-in-Err
returns-in-Err g c = below_err (of_desk c.args.place.now) (free_of_desk c.args.place.now) c.desk_fault.ensures c.in-Err.ensures.performs
