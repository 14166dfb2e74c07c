use Rattle.std.proofs.Common.{refl, sym, ◌∙◌}
use Rattle.em_view.proofs.Doing.{out_s}
use Rattle.em_command.proofs.Words.{is_refused, not_refused}
use Rattle.em_command.proofs.command.by_refusal.Goals as goal

pub returns-in_err-construct : goal.returns-in_err-construct
returns-in_err-construct g c = out_s _ refl c.from_residual.ensures.1

pub returns-in-Some : goal.returns-in-Some
returns-in-Some g c = is_refused _ _ _ _ (sym c.in-Some.is ∙ c.in_ok-construct.ensures)

pub returns-in-None : goal.returns-in-None
returns-in-None g c = not_refused _ _ _ _ (sym c.in-None.is ∙ c.in_ok-construct.ensures) c.by_builtin.ensures
