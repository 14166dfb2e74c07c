use Rattle.std.proofs.Common.{refl}
use Rattle.em_view.proofs.Doing.{then_s, leave_s, out_s, finish_s}
use Rattle.em_exec.specs.Subs.{inside}
use Rattle.em_exec.proofs.enter.inside.Goals as goal

pub returns-in_err-charge_unit : goal.returns-in_err-charge_unit
unfolding inside
returns-in_err-charge_unit g c = leave_s _ c.from_residual.ensures.1 (c.in_err-charge_unit.ensures.does _)

pub returns-in_err-enter : goal.returns-in_err-enter
unfolding inside
returns-in_err-enter g c = then_s _ (c.in_ok-charge_unit.ensures.does _) (leave_s _ c.from_residual-in_err-enter.ensures.1 (rw c.bytes.ensures at c.in_err-enter.ensures))

pub returns-in_err-copy : goal.returns-in_err-copy
unfolding inside
returns-in_err-copy g c = then_s _ (c.in_ok-charge_unit.ensures.does _) (then_s _ (rw c.bytes.ensures at c.in_ok-enter.ensures) (out_s _ refl c.from_residual-in_err-copy.ensures.1))

pub returns-then-not-branch : goal.returns-then-not-branch
unfolding inside
returns-then-not-branch g c = then_s _ (c.in_ok-charge_unit.ensures.does _) (then_s _ (rw c.bytes.ensures at c.in_ok-enter.ensures) (rw (c.if-not-branch.true, c.in_ok-copy.ensures) finish_s))

pub returns-in_err-words : goal.returns-in_err-words
unfolding inside
returns-in_err-words g c = then_s _ (c.in_ok-charge_unit.ensures.does _) (then_s _ (rw c.bytes.ensures at c.in_ok-enter.ensures) (rw c.if-not-branch.false (leave_s _ c.from_residual-in_err-words.ensures.1 c.in_err-words.ensures)))

pub returns : goal.returns
unfolding inside
returns g c = then_s _ (c.in_ok-charge_unit.ensures.does _) (then_s _ (rw c.bytes.ensures at c.in_ok-enter.ensures) (rw c.if-not-branch.false (then_s _ c.in_ok-words.ensures (rw c.behind_first.ensures finish_s))))
