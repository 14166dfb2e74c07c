use Rattle.std.proofs.Common.{arith}
use Rattle.em_insight.proofs.Filing.{least_pair}
use Rattle.em_insight.proofs.queue.pop_due.Goals as goal

pub returns-then-due-moment-clause-none : goal.returns-then-due-moment-clause-none
returns-then-due-moment-clause-none c = λ x j has.
    omega (arith, least_pair c.in_ok-due.field-0.now.0 c.in_ok-due.field-0.now.1 x j (c.in_ok-due.ensures.least (x, j) has), c.if-due-moment.true)
