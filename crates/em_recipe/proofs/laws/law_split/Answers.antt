use Rattle.em_recipe.proofs.Splitting.{split_joined, split_whole}
use Rattle.em_recipe.proofs.laws.law_split.Goals as goal

pub returns : goal.returns
returns c = record { joined = split_joined; whole = split_whole }
