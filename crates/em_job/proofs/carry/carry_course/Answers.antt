use Rattle.em_view.proofs.Doing.{finish_s}
use Rattle.em_job.proofs.carry.carry_course.Goals as goal

pub returns-in-Ended : goal.returns-in-Ended
returns-in-Ended g c = rw c.in-Ended.is finish_s

pub returns-in-Run : goal.returns-in-Run
returns-in-Run g c = rw c.in-Run.is (rw c.items.ensures at c.run_lines.ensures)
