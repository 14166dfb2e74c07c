use Rattle.em_view.proofs.Doing.{finish_s}
use Rattle.em_job.specs.Carrying.{delete}
use Rattle.em_job.proofs.fail.delete.Goals as goal

pub returns-then-not-job : goal.returns-then-not-job
unfolding delete
returns-then-not-job g c = rw c.if-not-job.true finish_s

pub returns : goal.returns
unfolding delete
returns g c = rw c.if-not-job.false (rw (c.items-targets.ensures, c.get.ensures) at c.delete_each.ensures)
