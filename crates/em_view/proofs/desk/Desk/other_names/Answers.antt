use Rattle.em_view.specs.Rows.{other_names}
use Rattle.em_view.proofs.Performing.{then, leave}
use Rattle.em_view.proofs.desk.Desk.other_names.Goals as goal

pub returns-in_err-names-clause-performs : goal.returns-in_err-names-clause-performs
unfolding other_names
returns-in_err-names-clause-performs g c = leave _ c.from_residual.ensures.1 c.in_err-names.ensures.performs

pub returns-clause-performs : goal.returns-clause-performs
unfolding other_names
returns-clause-performs g c = then _ c.in_ok-names.ensures.performs c.amended.ensures.performs
