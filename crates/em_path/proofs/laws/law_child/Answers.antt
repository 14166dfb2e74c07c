use Rattle.em_path.proofs.Spelling.{child_parent, child_last}
use Rattle.em_path.proofs.laws.law_child.Goals as goal

pub returns : goal.returns
returns c = record { parent = child_parent; last = child_last }
