use Rattle.em_exec.proofs.Truth.{truth}
use Rattle.em_exec.proofs.laws.law_true.Goals as goal

pub returns : goal.returns
returns c = truth
