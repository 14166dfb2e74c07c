use Rattle.em_textutil.proofs.Seeking.{found_by}
use Rattle.em_textutil.proofs.gather.found.Goals as goal

pub returns : goal.returns
returns g c = rw c.kept.ensures (found_by c.args.cwd.now c.args.name.now c.read.ensures)
