use Rattle.em_recipe.proofs.Setting.{own_texts, other_texts}
use Rattle.em_recipe.proofs.laws.law_automatic.Goals as goal

pub returns : goal.returns
returns c = record { own = own_texts; others = other_texts }
