use Rattle.em_gram.proofs.Only.{only_tree}
use Rattle.em_gram.proofs.laws.law_only_tree.Goals as goal

pub returns : goal.returns
returns c = only_tree
