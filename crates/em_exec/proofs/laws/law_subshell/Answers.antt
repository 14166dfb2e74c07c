use Rattle.em_exec.proofs.Lawful.{left}
use Rattle.em_exec.proofs.laws.law_subshell.Goals as goal

pub returns : goal.returns
returns c = left
