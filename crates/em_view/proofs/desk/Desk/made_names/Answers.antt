use Rattle.em_view.specs.Rows.{made_names}
use Rattle.em_view.proofs.Performing.{then, leave}
use Rattle.em_view.proofs.desk.Desk.made_names.Goals as goal

pub returns-in_err-names-clause-performs : goal.returns-in_err-names-clause-performs
unfolding made_names
returns-in_err-names-clause-performs g c = leave _ c.from_residual.ensures.1 c.in_err-names.ensures.performs

pub returns-clause-performs : goal.returns-clause-performs
unfolding made_names
returns-clause-performs g c = then _ c.in_ok-names.ensures.performs (rw c.or_none.ensures at c.amended.ensures.performs)
