use Rattle.std.proofs.Common.{refl}
use Rattle.em_view.proofs.Doing.{then_s, leave_s, finish_s, out_s}
use Rattle.em_job.specs.Preparing as preparing
use Rattle.em_job.proofs.prepare.expand_recipe.Goals as goal

pub returns-in_err-autos : goal.returns-in_err-autos
returns-in_err-autos g c = out_s _ refl c.from_residual.ensures.1

pub returns-in_err-lines : goal.returns-in_err-lines
unfolding preparing.expand_recipe
returns-in_err-lines g c = leave_s _ c.from_residual-in_err-lines.ensures.1 (rw (c.recipe_of.ensures, c.items.ensures, c.in_ok-autos.ensures, c.get.ensures) at c.in_err-lines.ensures)

pub returns : goal.returns
unfolding preparing.expand_recipe
returns g c = rw (c.in_ok-autos.ensures, c.get.ensures) (then_s _ (rw (c.recipe_of.ensures, c.items.ensures, c.in_ok-autos.ensures, c.get.ensures) at c.in_ok-lines.ensures) finish_s)
