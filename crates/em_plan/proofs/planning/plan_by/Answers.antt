use Rattle.std.proofs.Common.{sym, ◌∙◌}
use Rattle.std.proofs.lemmas.Result.{err_from_is_err_and}
use Rattle.em_plan.specs.Walking.{asks_for}
use Rattle.em_plan.proofs.Asked.{came_want, came_none, came_some, came_short, came_fails}
use Rattle.em_plan.proofs.planning.plan_by.Goals as goal

pub returns-then-is_empty-clause-asked : goal.returns-then-is_empty-clause-asked
returns-then-is_empty-clause-asked g c = came_none g.T.There.asks c.args.book.now c.args.cwd.now c.args.goals.now c.asked-goals.result.now c.asked-goals.ensures _ (sym c.is_empty.ensures ∙ c.if-is_empty.true)

pub returns-in_err-names-clause-asked : goal.returns-in_err-names-clause-asked
returns-in_err-names-clause-asked g c = came_want g.T.There.asks _ _ _ c.from_residual.ensures.1

pub returns-in_err-marks-clause-asked : goal.returns-in_err-marks-clause-asked
unfolding asks_for
returns-in_err-marks-clause-asked g c =
    let p = err_from_is_err_and c.from_residual-in_err-marks.result c.from_residual-in_err-marks.ensures.1 in
    rw (p.1, p.2) (came_fails g.T.There.asks c.args.book.now c.args.cwd.now c.args.goals.now c.asked-goals.result.now c.asked-goals.ensures (sym c.is_empty.ensures ∙ c.if-is_empty.false) _ c.in_ok-names.ensures _ _ _
    (rw c.items.ensures at c.in_err-marks.ensures.err))

pub returns-in_err-goals-clause-asked : goal.returns-in_err-goals-clause-asked
unfolding asks_for
returns-in_err-goals-clause-asked g c =
    came_short g.T.There.asks c.args.book.now c.args.cwd.now c.args.goals.now c.asked-goals.result.now c.asked-goals.ensures (sym c.is_empty.ensures ∙ c.if-is_empty.false) _ c.in_ok-names.ensures _ _ c.from_residual-in_err-goals.ensures.1
    (rw c.items.ensures at c.in_ok-marks.ensures.ok)

pub returns-clause-asked : goal.returns-clause-asked
unfolding asks_for
returns-clause-asked g c =
    came_some g.T.There.asks c.args.book.now c.args.cwd.now c.args.goals.now c.asked-goals.result.now c.asked-goals.ensures (sym c.is_empty.ensures ∙ c.if-is_empty.false) _ c.in_ok-names.ensures c.in_ok-marks.field-0.marks c.in_ok-marks.field-0.walked _
    (rw c.items.ensures at c.in_ok-marks.ensures.ok) c.in_ok-marks.ensures.marked (rw c.items-2.ensures at c.in_ok-goals.ensures)
