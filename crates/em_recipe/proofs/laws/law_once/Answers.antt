use Rattle.em_recipe.proofs.Doubles.{same_names, each_once}
use Rattle.em_recipe.proofs.laws.law_once.Goals as goal

pub returns : goal.returns
returns c = record { same = same_names; single = each_once }
