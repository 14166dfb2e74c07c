use Rattle.std.proofs.Common.{Ok, ap}
use Rattle.std.proofs.lemmas.Result.{err_from_is_err_and}
use Rattle.em_implicit.specs.Asking.{Here}
use Rattle.em_implicit.proofs.Following.{on}
use Rattle.em_plan.specs.Walking.{asks_for}
use Rattle.em_plan.proofs.Offering.{first_offered, none_offered}
use Rattle.em_plan.proofs.Sought.{makefile_units}
use Rattle.em_plan.proofs.Walks.{fails_on, goal_passed, goal_turn, goal_less, goal_ends, goal_asked, goal_fails}
use Rattle.em_plan.proofs.walk.walk_from.Goals as goal

pub loop-making-init : goal.loop-making-init
loop-making-init g c = record { marked = c.requires.marked; empty = c.requires.empty; end = Here _ _ }

pub returns-in_err-making-clause-err : goal.returns-in_err-making-clause-err
returns-in_err-making-clause-err g c =
    let p = err_from_is_err_and c.from_residual.result c.from_residual.ensures.1 in
    rw p.1 (fails_on g.T.There.asks _ _ _ _ _ _ c.loop-making.invariant.end
    (goal_asked g.T.There.asks _ _ (asks_for c.args.makefile) c.loop-making.walk c.args.goal.now c.loop-making.invariant.marked _ _ c.in_err-making.ensures.unrefused p.2 (rw c.bytes.ensures at c.in_err-making.ensures.next)))

pub returns-in_err-walk_unit-clause-err : goal.returns-in_err-walk_unit-clause-err
returns-in_err-walk_unit-clause-err g c =
    let p = err_from_is_err_and c.from_residual-in_err-walk_unit.result c.from_residual-in_err-walk_unit.ensures.1 in
    let h = first_offered g.T.There.asks _ _ _ _ _ (ap Ok c.in-Some.is) (rw c.bytes.ensures at c.in_ok-making.ensures.next) in
    rw (p.1, p.2) (fails_on g.T.There.asks _ _ _ _ _ _ c.loop-making.invariant.end
    (goal_fails (asks_for c.args.makefile) c.loop-making.walk.walked c.args.goal.now g.T.There.asks _ _ _ _ _ _ (goal_passed g.T.There.asks _ _ (asks_for c.args.makefile) c.loop-making.walk c.args.goal.now c.loop-making.invariant.marked _ h.1) c.in_err-walk_unit.ensures.err))

pub loop-making-preserved : goal.loop-making-preserved
loop-making-preserved g c =
    let h = first_offered g.T.There.asks _ _ _ _ _ (ap Ok c.in-Some.is) (rw c.bytes.ensures at c.in_ok-making.ensures.next) in
    record {
      marked = c.in_ok-walk_unit.ensures.marked;
      empty = c.in_ok-walk_unit.ensures.empty;
      end = on c.loop-making.invariant.end (goal_turn g.T.There.asks _ _ _ (asks_for c.args.makefile) (makefile_units c.args.makefile) c.loop-making.walk c.args.goal.now c.loop-making.invariant.marked _ _ _ h.1 c.in_ok-walk_unit.ensures.ok);
    }

pub loop-making-smaller : goal.loop-making-smaller
loop-making-smaller g c =
    let h = first_offered g.T.There.asks _ _ _ _ _ (ap Ok c.in-Some.is) (rw c.bytes.ensures at c.in_ok-making.ensures.next) in
    goal_less g.T.There.asks _ _ _ c.args.makefile c.loop-making.walk c.args.goal.now c.loop-making.invariant.marked _ _ _ h.1 c.in_ok-walk_unit.ensures.ok

pub returns-clause-ok : goal.returns-clause-ok
returns-clause-ok g c =
    on c.loop-making.invariant.end (goal_ends g.T.There.asks _ _ (asks_for c.args.makefile) c.loop-making.walk c.args.goal.now c.loop-making.invariant.marked
    (none_offered g.T.There.asks _ _ _ _ (ap Ok c.in_default.is) (rw c.bytes.ensures at c.in_ok-making.ensures.next)))
