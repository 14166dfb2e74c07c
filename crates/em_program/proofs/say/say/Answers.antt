use Rattle.std.proofs.Common.{sym, ◌∙◌}
use Rattle.em_program.proofs.Following.{said_nothing, said, not_said}
use Rattle.em_program.proofs.say.say.Goals as goal

pub returns-then-is_empty-clause-told : goal.returns-then-is_empty-clause-told
returns-then-is_empty-clause-told g c = said_nothing _ (sym c.is_empty.ensures ∙ c.if-is_empty.true)

pub returns-in_err-print-clause-told : goal.returns-in_err-print-clause-told
returns-in_err-print-clause-told g c = not_said _ _ (sym c.is_empty.ensures ∙ c.if-is_empty.false) c.from_residual.ensures.1 c.in_err-print.ensures.told

pub returns-clause-told : goal.returns-clause-told
returns-clause-told g c = said _ (sym c.is_empty.ensures ∙ c.if-is_empty.false) c.in_ok-print.ensures.told
