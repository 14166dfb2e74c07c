use Rattle.std.proofs.Common.{◌∙◌, sym}
use Rattle.em_implicit.specs.Asking.{Here}
use Rattle.em_implicit.proofs.Following.{lacked}
use Rattle.em_plan.proofs.making.RuleContext.unit.Goals as goal

pub returns-in_default-clause-asked : goal.returns-in_default-clause-asked
returns-in_default-clause-asked g c = rw (sym c.recipe_rule.ensures ∙ c.in_default.is) c.unruled_unit.ensures.asked

pub returns-in_err-ruled_unit-clause-asked : goal.returns-in_err-ruled_unit-clause-asked
returns-in_err-ruled_unit-clause-asked g c = lacked g.T.There.asks _ _ _ c.from_residual.ensures.1

pub returns-clause-asked : goal.returns-clause-asked
returns-clause-asked g c = rw (sym c.recipe_rule.ensures ∙ c.in-Some.is, c.in_ok-ruled_unit.ensures) (Here _ _)
