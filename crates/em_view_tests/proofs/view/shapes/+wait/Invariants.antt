use Rattle.em_view_tests.proofs.view.shapes.+wait.Given as goal

abbrev pub decreases-wait : goal.decreases-wait
decreases-wait g l = l.turns
