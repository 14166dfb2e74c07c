use Rattle.std.proofs.Common.{◌∙◌, refl, arith}
use Rattle.em_view.proofs.Doing.{then_s, leave_s}
use Rattle.em_exec.specs.Subs.{charged}
use Rattle.em_exec.proofs.Burning.{same_end}
use Rattle.em_exec.proofs.sub.charged.Goals as goal

pub returns-in_err-charge_unit-clause-does : goal.returns-in_err-charge_unit-clause-does
unfolding charged
returns-in_err-charge_unit-clause-does g c = leave_s _ c.from_residual.ensures.1 (c.in_err-charge_unit.ensures.does _)

pub returns-clause-does : goal.returns-clause-does
unfolding charged
returns-clause-does g c = then_s _ (c.in_ok-charge_unit.ensures.does _) c.fields_in.ensures

pub returns-in_err-charge_unit-clause-burns : goal.returns-in_err-charge_unit-clause-burns
returns-in_err-charge_unit-clause-burns g c = λ n. c.in_err-charge_unit.ensures.burns (same_end (Unit {0}) _ c.from_residual.result c.from_residual.ensures.1 ∙ n)

pub returns-clause-burns : goal.returns-clause-burns
returns-clause-burns g c = λ n. omega (arith, c.in_ok-charge_unit.ensures.burns refl, c.fields_in.ensures.performs.grows.burns)
