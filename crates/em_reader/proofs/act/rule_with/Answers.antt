use Rattle.std.proofs.Common.{refl}
use Rattle.em_view.proofs.Doing.{then_s, leave_s, out_s, owned_s}
use Rattle.em_reader.specs.Acting.{rule_with}
use Rattle.em_reading.specs.Changes.{begin_rule}
use Rattle.em_reader.proofs.act.rule_with.Goals as goal

pub returns-in_err-targets : goal.returns-in_err-targets
unfolding rule_with
returns-in_err-targets g c = leave_s _ c.from_residual.ensures.1 (rw c.items.ensures at c.in_err-targets.ensures)

pub returns-in_err-normal : goal.returns-in_err-normal
unfolding rule_with
returns-in_err-normal g c = then_s _ (rw c.items.ensures at c.in_ok-targets.ensures) (leave_s _ c.from_residual-in_err-normal.ensures.1 (rw c.items-2.ensures at c.in_err-normal.ensures))

pub returns-in_err-order : goal.returns-in_err-order
unfolding rule_with
returns-in_err-order g c = then_s _ (rw c.items.ensures at c.in_ok-targets.ensures) (then_s _ (rw c.items-2.ensures at c.in_ok-normal.ensures) (leave_s _ c.from_residual-in_err-order.ensures.1 (rw c.items-3.ensures at c.in_err-order.ensures)))

pub returns-in_err-rule : goal.returns-in_err-rule
unfolding rule_with
returns-in_err-rule g c = then_s _ (rw c.items.ensures at c.in_ok-targets.ensures) (then_s _ (rw c.items-2.ensures at c.in_ok-normal.ensures) (then_s _ (rw c.items-3.ensures at c.in_ok-order.ensures) (out_s _ refl c.from_residual-in_err-rule.ensures.1)))

pub returns : goal.returns
unfolding rule_with
returns g c = then_s _ (rw c.items.ensures at c.in_ok-targets.ensures) (then_s _ (rw c.items-2.ensures at c.in_ok-normal.ensures) (then_s _ (rw c.items-3.ensures at c.in_ok-order.ensures) (owned_s _ (rw c.in_ok-rule.ensures at c.begin_rule.ensures))))
