use Rattle.std.proofs.Common.{sym, ◌∙◌}
use Rattle.em_workers.proofs.Saying.{said_nothing, said, not_said}
use Rattle.em_workers.proofs.printing.print.Goals as goal

pub returns-then-is_empty-clause-printed : goal.returns-then-is_empty-clause-printed
returns-then-is_empty-clause-printed g c = said_nothing _ (tt {0}) _ (sym c.is_empty.ensures ∙ c.if-is_empty.true)

pub returns-in_err-print-clause-printed : goal.returns-in_err-print-clause-printed
returns-in_err-print-clause-printed g c = not_said _ _ _ _ _ (sym c.is_empty.ensures ∙ c.if-is_empty.false) c.from_residual.ensures.1 c.in_err-print.ensures.told

pub returns-clause-printed : goal.returns-clause-printed
returns-clause-printed g c = said _ _ _ _ (sym c.is_empty.ensures ∙ c.if-is_empty.false) c.in_ok-print.ensures.told
