use Rattle.std.proofs.Common.{refl}
use Rattle.em_view.proofs.Performing.{finish, ran_out}
use Rattle.em_view.proofs.desk.Desk.pass.Goals as goal

pub returns-in_err-dir-clause-performs : goal.returns-in_err-dir-clause-performs
returns-in_err-dir-clause-performs g c = ran_out _ refl c.from_residual.ensures.1

pub returns-in-None-clause-performs : goal.returns-in-None-clause-performs
returns-in-None-clause-performs g c = rw (c.if-last.false, ← c.in_ok-dir.ensures, c.in-None.is) finish
