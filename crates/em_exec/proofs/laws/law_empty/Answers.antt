use Rattle.em_exec.proofs.Lawful.{empty}
use Rattle.em_exec.proofs.laws.law_empty.Goals as goal

pub returns : goal.returns
returns c = empty
