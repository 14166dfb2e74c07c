use Rattle.std.proofs.Common.{◌+◌, drop}
use Rattle.em_base.proofs.Lemmas.{left_at, none_at}
use Rattle.std.proofs.lemmas.Result.{err_from_is_err_and}
use Rattle.em_implicit.specs.Asking.{Here}
use Rattle.em_implicit.proofs.Following.{on, first}
use Rattle.em_plan.specs.Walking.{asks_for, if_walked, visiting_all}
use Rattle.em_plan.proofs.Walks.{marked_none, fails_on, fails_then}
use Rattle.em_plan.proofs.walk.walk_all.Goals as goal

pub loop-goal-init : goal.loop-goal-init
loop-goal-init g c = record {
  marked = rw (c.new-2.ensures, c.new-3.ensures) marked_none;
  empty = c.new.ensures;
  end = rw (c.new-3.ensures, c.new-4.ensures) (Here _ _);
}

pub loop-goal-preserved : goal.loop-goal-preserved
loop-goal-preserved g c =
    let left = left_at c.args.goals.now c.loop-goal.goal-index c.goal-item.result c.loop-goal-test.true c.goal-item.is in
    let rest = visiting_all (asks_for c.args.makefile) (drop (c.loop-goal.goal-index + 1) c.args.goals.now) in
    record {
      marked = c.in_ok-walk_from.ensures.marked;
      empty = c.in_ok-walk_from.ensures.empty;
      end = on (rw left at c.loop-goal.invariant.end) (first (if_walked rest) c.in_ok-walk_from.ensures.ok);
    }

pub returns-in_err-walk_from-clause-err : goal.returns-in_err-walk_from-clause-err
returns-in_err-walk_from-clause-err g c =
    let left = left_at c.args.goals.now c.loop-goal.goal-index c.goal-item.result c.loop-goal-test.true c.goal-item.is in
    let rest = visiting_all (asks_for c.args.makefile) (drop (c.loop-goal.goal-index + 1) c.args.goals.now) in
    let p = err_from_is_err_and c.from_residual.result c.from_residual.ensures.1 in
    rw (p.1, p.2) (fails_on g.T.There.asks _ _ _ _ _ _ (rw left at c.loop-goal.invariant.end) (fails_then g.T.There.asks _ _ _ rest _ c.in_err-walk_from.ensures.err))

pub returns-clause-ok : goal.returns-clause-ok
returns-clause-ok g c = rw (none_at c.args.goals.now c.loop-goal.goal-index c.loop-goal-test.false) at c.loop-goal.invariant.end
