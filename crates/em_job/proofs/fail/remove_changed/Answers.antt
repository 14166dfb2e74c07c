use Rattle.em_view.proofs.Doing.{then_s, exit_s, finish_s, below_ok, below_err}
use Rattle.em_job.specs.Carrying.{remove_changed}
use Rattle.em_job.specs.Stops as stops
use Rattle.em_job.proofs.Stopping.{desk_free}
use Rattle.em_job.proofs.fail.remove_changed.Goals as goal

pub returns-then-same_stamp : goal.returns-then-same_stamp
unfolding remove_changed
returns-then-same_stamp g c = then_s _ (below_ok (stops.of_desk c.args.place.now) c.in-Ok.ensures.performs) (rw (← c.same_stamp.ensures, c.if-same_stamp.true) finish_s)

pub returns-else-same_stamp : goal.returns-else-same_stamp
unfolding remove_changed
returns-else-same_stamp g c = then_s _ (below_ok (stops.of_desk c.args.place.now) c.in-Ok.ensures.performs) (rw (← c.same_stamp.ensures, c.if-same_stamp.false) c.remove.ensures)

pub returns-in-Err : goal.returns-in-Err
unfolding remove_changed
returns-in-Err g c = exit_s _ (below_err (stops.of_desk c.args.place.now) (desk_free c.args.place.now) c.of_desk.ensures c.in-Err.ensures.performs)
