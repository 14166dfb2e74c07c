use Rattle.std.proofs.Common.{[], ◌∷◌, subst}
use Rattle.std.proofs.lemmas.Result.{err_from_is_err_and}
use Rattle.em_implicit.specs.Asking.{Asking, Follows, Here}
use Rattle.em_implicit.proofs.Following.{on}
use Rattle.em_plan.specs.Order.{Walking}
use Rattle.em_plan.specs.Walking.{asks_for}
use Rattle.em_plan.specs.Resuming.{after}
use Rattle.em_plan.proofs.Walks.{fails_on, fails_want, goal_start, goal_full, resume_nothing}
use Rattle.em_plan.proofs.walk.walk_unit.Goals as goal

pub loop-frame-init : goal.loop-frame-init
loop-frame-init g c =
    let units = asks_for c.args.makefile in
    let s = goal_start units c.args.walk.now c.enter.new.walk c.args.goal.now c.args.making c.requires.marked c.requires.empty c.in_ok-enter.ensures.room
    (rw c.in_ok-copy.ensures at c.in_ok-enter.ensures.begun) c.in_ok-enter.ensures.marks c.in_ok-enter.ensures.walked in
    record { marked = s.0; end = subst (λ (y : Asking Walking). Follows g.T.There.asks c.args.there.now c.args.there.now (after units [] c.args.goal.now (c.args.making ∷ []) c.args.walk.now.walked) y) s.1 (Here _ _) }

pub loop-frame-preserved : goal.loop-frame-preserved
loop-frame-preserved g c = record { marked = c.in_ok-step.ensures.ok.marked; end = on (rw c.in-Some.ensures at c.loop-frame.invariant.end) c.in_ok-step.ensures.ok.end }

pub returns-in_err-enter-clause-err : goal.returns-in_err-enter-clause-err
returns-in_err-enter-clause-err g c =
    let p = err_from_is_err_and c.from_residual-in_err-enter.result c.from_residual-in_err-enter.ensures.1 in
    rw (p.1, p.2) (goal_full (asks_for c.args.makefile) c.args.walk.now c.args.goal.now c.args.making c.requires.empty g.T.There.asks _ _ c.in_err-enter.ensures.err)

pub returns-in_err-step-clause-err : goal.returns-in_err-step-clause-err
returns-in_err-step-clause-err g c =
    let p = err_from_is_err_and c.from_residual-in_err-step.result c.from_residual-in_err-step.ensures.1 in
    rw (p.1, p.2) (fails_on g.T.There.asks _ _ _ _ _ _ (rw c.in-Some.ensures at c.loop-frame.invariant.end) c.in_err-step.ensures.err)

pub returns-clause-ok : goal.returns-clause-ok
returns-clause-ok g c = rw (resume_nothing (asks_for c.args.makefile) c.loop-frame.walk.begun c.loop-frame.walk.walked c.in_default.ensures.0) at c.loop-frame.invariant.end

pub returns-in_err-copy-clause-err : goal.returns-in_err-copy-clause-err
returns-in_err-copy-clause-err g c =
    let p = err_from_is_err_and c.from_residual.result c.from_residual.ensures.1 in
    rw p.1 (fails_want g.T.There.asks _ _ _ p.2)
