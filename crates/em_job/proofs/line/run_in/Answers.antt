use Rattle.em_view.proofs.Doing.{within_ok, within_err}
use Rattle.em_job.specs.Carrying as carrying
use Rattle.em_job.specs.Carrying.{run_in}
use Rattle.em_job.specs.Stops as stops
use Rattle.em_job.proofs.Stopping.{line_free}
use Rattle.em_job.proofs.line.run_in.Goals as goal

pub returns-in-Ok : goal.returns-in-Ok
unfolding run_in
returns-in-Ok g c = within_ok (carrying.session_of c.args.shell) carrying.said_in (stops.of_line c.args.place.now) _ _ c.in-Ok.ensures

pub returns : goal.returns
unfolding run_in
returns g c = within_err (carrying.session_of c.args.shell) carrying.said_in (stops.of_line c.args.place.now) _ _ (line_free c.args.place.now) c.of_line.ensures c.in-Err.ensures
