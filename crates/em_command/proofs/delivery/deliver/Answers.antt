use Rattle.std.proofs.Common.{◌≡◌, ◌∙◌, refl, ap}
use Rattle.em_view.proofs.Doing.{then_s, leave_s, owned_s, out_s}
use Rattle.em_command.specs.Delivering.{texts_for, delivered}
use Rattle.em_command.proofs.delivery.deliver.Goals as goal

pub returns-in_err-texts : goal.returns-in_err-texts
returns-in_err-texts g c = out_s _ refl c.from_residual.ensures.1

pub returns-in_err-hand : goal.returns-in_err-hand
unfolding delivered
returns-in_err-hand g c = leave_s _ c.from_residual-in_err-hand.ensures.1 (owned_s _ c.in_err-hand.ensures)

pub returns : goal.returns
unfolding delivered
returns g c =
    let texts : c.in_ok-texts.texts ≡ texts_for c.args.streams.now c.args.pieces = c.in_ok-texts.ensures ∙ ap (texts_for c.args.streams.now) c.items.ensures in
    then_s _ (owned_s _ c.in_ok-hand.ensures) (rw (c.items-2.ensures, c.items-3.ensures, texts) at c.append_each.ensures)
