use Rattle.em_view.proofs.desk.Desk.+passed.Given as goal

abbrev pub decreases-passed : goal.decreases-passed
decreases-passed g l = l.left
