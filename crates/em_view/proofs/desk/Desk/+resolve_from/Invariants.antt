use Rattle.em_view.proofs.desk.Desk.+resolve_from.Given as goal

abbrev pub decreases-resolve_from : goal.decreases-resolve_from
decreases-resolve_from g l = l.left
