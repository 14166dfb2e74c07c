use Rattle.std.proofs.Common.{append_assoc, refl}
use Rattle.em_recipe.specs.Automatic.{texts}
use Rattle.em_recipe.proofs.automatic.automatic_vars.Goals as goal

pub returns : goal.returns
unfolding texts
returns c = rw (c.in_ok-add_last.ensures, c.in_ok-add_newer.ensures, c.in_ok-add_first.ensures, c.new-own.ensures, append_assoc) refl
