use Rattle.em_tree.proofs.tree.Tree.+first_link.Given as goal

abbrev pub decreases-first_link : goal.decreases-first_link
decreases-first_link l = l.left
