use Rattle.std.proofs.Common.{refl}
use Rattle.em_view.specs.Rows.{told_names}
use Rattle.em_view.proofs.Performing.{ran_out, then, leave, finish}
use Rattle.em_view.proofs.desk.Desk.told_names.Goals as goal

pub returns-in_err-answer-clause-performs : goal.returns-in_err-answer-clause-performs
unfolding told_names
returns-in_err-answer-clause-performs g c = leave _ c.from_residual-in_err-answer.ensures.1 (rw c.in_ok-copy.ensures at c.in_err-answer.ensures.performs)

pub returns-clause-performs : goal.returns-clause-performs
unfolding told_names
returns-clause-performs g c = rw c.names_in.ensures (then _ (rw c.in_ok-copy.ensures at c.in_ok-answer.ensures.performs) finish)

pub returns-in_err-copy-clause-performs : goal.returns-in_err-copy-clause-performs
returns-in_err-copy-clause-performs g c = ran_out _ refl c.from_residual.ensures.1
