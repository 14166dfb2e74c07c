use Rattle.std.proofs.lemmas.Result.{err_from_is_err_and}
use Rattle.em_plan.proofs.walk.go_into.Goals as goal

pub returns-clause-room : goal.returns-clause-room
returns-clause-room c = rw c.in_ok-push.ensures.ok at c.in_ok-enter.ensures.room

pub returns-clause-begun : goal.returns-clause-begun
returns-clause-begun c = rw c.in_ok-push.ensures.ok at c.in_ok-enter.ensures.begun

pub returns-in_err-enter-clause-err : goal.returns-in_err-enter-clause-err
returns-in_err-enter-clause-err c =
    let p = err_from_is_err_and c.from_residual-in_err-enter.result c.from_residual-in_err-enter.ensures.1 in
    rw (p.1, p.2) (rw c.in_ok-push.ensures.ok at c.in_err-enter.ensures.err)
