use Rattle.std.proofs.Common.{refl, sym, ◌∙◌}
use Rattle.em_view.proofs.Doing.{out_s, refused_s}
use Rattle.em_fileutil.proofs.command.link.Goals as goal

pub returns-then-has : goal.returns-then-has
returns-then-has g c = rw (sym c.has.ensures ∙ c.if-has.true) (rw c.has-force.ensures at c.link_two.ensures)

pub returns-in_err-command : goal.returns-in_err-command
returns-in_err-command g c = out_s _ refl c.from_residual.ensures.1

pub returns-in_ok-command : goal.returns-in_ok-command
returns-in_ok-command g c = rw (sym c.has.ensures ∙ c.if-has.false) (refused_s _ (λ h. rw c.in_ok-command.ensures refl))
