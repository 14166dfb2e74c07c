use Rattle.std.proofs.Common.{arith, refl}
use Rattle.em_view.proofs.Performing.{then, leave, finish, ran_out}
use Rattle.em_view.proofs.Levels.{turn, follow_level}
use Rattle.em_view.proofs.desk.Desk.+resolve_from.Goals as goal

pub returns-in_err-met-clause-performs : goal.returns-in_err-met-clause-performs
returns-in_err-met-clause-performs g t c = turn c.args.last c.args.left c.args.followed c.args.p (leave _ c.from_residual.ensures.1 c.in_err-met.ensures.performs)

pub returns-in_default-clause-performs : goal.returns-in_default-clause-performs
returns-in_default-clause-performs g t c = turn c.args.last c.args.left c.args.followed c.args.p (then _ c.in_ok-met.ensures.performs (rw c.in_default.is finish))

pub returns-then-left-eq0-clause-performs : goal.returns-then-left-eq0-clause-performs
returns-then-left-eq0-clause-performs g t c = turn c.args.last c.args.left c.args.followed c.args.p (then _ c.in_ok-met.ensures.performs (rw (c.in-Some.is, c.if-left-eq0.true) finish))

pub returns-in_err-q-clause-performs : goal.returns-in_err-q-clause-performs
returns-in_err-q-clause-performs g t c = turn c.args.last c.args.left c.args.followed c.args.p (then _ c.in_ok-met.ensures.performs (rw c.in-Some.is (ran_out _ refl c.from_residual-in_err-q.ensures.1)))

pub returns-in-Some-2-clause-performs : goal.returns-in-Some-2-clause-performs
returns-in-Some-2-clause-performs g t c = turn c.args.last c.args.left c.args.followed c.args.p (then _ c.in_ok-met.ensures.performs (rw c.in-Some.is
    (follow_level c.args.last c.args.left c.args.followed c.args.p c.in-Some.met (omega arith) (rw (← c.in_ok-q.ensures, c.in-Some-2.is) c.resolve_from.ensures.performs))))

pub returns-clause-performs : goal.returns-clause-performs
returns-clause-performs g t c = turn c.args.last c.args.left c.args.followed c.args.p (then _ c.in_ok-met.ensures.performs (rw c.in-Some.is
    (follow_level c.args.last c.args.left c.args.followed c.args.p c.in-Some.met (omega arith) (rw (← c.in_ok-q.ensures, c.in-None.is) finish))))
