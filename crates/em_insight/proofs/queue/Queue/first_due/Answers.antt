use Rattle.em_insight.proofs.Filing.{least_pair}
use Rattle.em_insight.proofs.queue.Queue.first_due.Goals as goal

pub returns-clause-some : goal.returns-clause-some
returns-clause-some c = (c.in_ok-due.field-0.now.1, c.in_ok-due.ensures.member)

pub returns-clause-least : goal.returns-clause-least
returns-clause-least c = λ x j has. least_pair c.in_ok-due.field-0.now.0 c.in_ok-due.field-0.now.1 x j (c.in_ok-due.ensures.least (x, j) has)
