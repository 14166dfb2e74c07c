use Rattle.em_view.proofs.Doing.{then_s, exit_s, finish_s, below_ok, below_err}
use Rattle.em_job.specs.Carrying.{delete_at}
use Rattle.em_job.specs.Stops as stops
use Rattle.em_job.proofs.Stopping.{desk_free}
use Rattle.em_job.proofs.fail.delete_at.Goals as goal

pub returns-in-Ok-File : goal.returns-in-Ok-File
unfolding delete_at
returns-in-Ok-File g c = then_s _ (below_ok (stops.of_desk c.args.place.now) c.in-Ok-File.ensures.performs) (rw c.in-Ok-File.field-0-is c.remove_changed.ensures)

pub returns-in-Ok-Absent : goal.returns-in-Ok-Absent
unfolding delete_at
returns-in-Ok-Absent g c = then_s _ (below_ok (stops.of_desk c.args.place.now) c.in-Ok-Absent.ensures.performs) (rw c.in-Ok-Absent.field-0-is finish_s)

pub returns-in-Ok-Dir : goal.returns-in-Ok-Dir
unfolding delete_at
returns-in-Ok-Dir g c = then_s _ (below_ok (stops.of_desk c.args.place.now) c.in-Ok-Dir.ensures.performs) (rw c.in-Ok-Dir.field-0-is finish_s)

pub returns-in-Err : goal.returns-in-Err
unfolding delete_at
returns-in-Err g c = exit_s _ (below_err (stops.of_desk c.args.place.now) (desk_free c.args.place.now) c.of_desk.ensures c.in-Err.ensures.performs)

pub returns-in-Ok-Link : goal.returns-in-Ok-Link
unfolding delete_at
returns-in-Ok-Link g c = then_s _ (below_ok (stops.of_desk c.args.place.now) c.in-Ok-Link.ensures.performs) (rw c.in-Ok-Link.field-0-is finish_s)
