use Rattle.em_image.proofs.Written.{one_tree}
use Rattle.em_image.proofs.law.one_tree_of_a_text.Goals as goal

pub returns : goal.returns
returns c = one_tree
