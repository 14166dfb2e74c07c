use Rattle.em_tree.proofs.tree.Tree.+resolve_from.Given as goal

abbrev pub decreases-resolve_from : goal.decreases-resolve_from
decreases-resolve_from l = l.left
