use Rattle.em_reader.proofs.Passed.{nothing}
use Rattle.em_reader.proofs.laws.law_unread_branch.Goals as goal

pub returns : goal.returns
returns c = nothing
