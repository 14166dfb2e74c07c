use Rattle.std.proofs.Common.{sym, ◌∙◌}
use Rattle.em_view.specs.Rows.{look}
use Rattle.em_view.proofs.Performing.{then, leave, finish}
use Rattle.em_view.proofs.desk.Desk.look.Goals as goal

pub returns-in_err-kind-clause-performs : goal.returns-in_err-kind-clause-performs
unfolding look
returns-in_err-kind-clause-performs g c = leave _ c.from_residual.ensures.1 c.in_err-kind.ensures.performs

pub returns-in_default-clause-performs : goal.returns-in_default-clause-performs
unfolding look
returns-in_default-clause-performs g c = then _ c.in_ok-kind.ensures.performs (rw (sym c.requires.parent ∙ c.in_default.is) finish)

pub returns-in_err-over-clause-performs : goal.returns-in_err-over-clause-performs
unfolding look
returns-in_err-over-clause-performs g c = then _ c.in_ok-kind.ensures.performs (rw (sym c.requires.parent ∙ c.in-Some.is) (leave _ c.from_residual-in_err-over.ensures.1 c.in_err-over.ensures.performs))

pub returns-clause-performs : goal.returns-clause-performs
unfolding look
returns-clause-performs g c = then _ c.in_ok-kind.ensures.performs (rw (sym c.requires.parent ∙ c.in-Some.is) (then _ c.in_ok-over.ensures.performs finish))
