use Rattle.em_make_laws.proofs.Recipe.{once_none, once_again, once_first}
use Rattle.em_make_laws.proofs.recipes.law_once.Goals as goal

pub returns : goal.returns
returns c = record { none = once_none; again = once_again; first = once_first }
