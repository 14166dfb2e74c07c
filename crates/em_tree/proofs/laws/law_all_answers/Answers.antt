use Rattle.em_tree.proofs.Lawful.{same_state}
use Rattle.em_tree.proofs.laws.law_all_answers.Goals as goal

pub returns : goal.returns
returns c = same_state
