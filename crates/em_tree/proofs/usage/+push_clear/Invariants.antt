use Rattle.em_tree.proofs.usage.+push_clear.Given as goal

abbrev pub decreases-push_clear : goal.decreases-push_clear
decreases-push_clear l = l.left
