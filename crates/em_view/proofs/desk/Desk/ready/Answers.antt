use Rattle.em_view.proofs.Primitives.{not_ready, is_ready}
use Rattle.em_view.proofs.desk.Desk.ready.Goals as goal

pub returns-then-left-lt1-clause-performs : goal.returns-then-left-lt1-clause-performs
returns-then-left-lt1-clause-performs g c = not_ready c.args.self.now (rw (← c.self.view_is, ← c.left.ensures) c.if-left-lt1.true)

pub returns-clause-performs : goal.returns-clause-performs
returns-clause-performs g c = is_ready c.args.self.now (rw (← c.self.view_is, ← c.left.ensures) c.if-left-lt1.false)
