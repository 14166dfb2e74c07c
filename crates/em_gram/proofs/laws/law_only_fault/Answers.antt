use Rattle.em_gram.proofs.Verdicts.{only_fault}
use Rattle.em_gram.proofs.laws.law_only_fault.Goals as goal

pub returns : goal.returns
returns c = only_fault
