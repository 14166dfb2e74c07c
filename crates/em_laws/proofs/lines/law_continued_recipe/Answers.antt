use Rattle.em_laws.proofs.Joining.{recipe_plain, recipe_tab}
use Rattle.em_laws.proofs.lines.law_continued_recipe.Goals as goal

pub returns-clause-plain : goal.returns-clause-plain
returns-clause-plain c = recipe_plain

pub returns-clause-tab : goal.returns-clause-tab
returns-clause-tab c = recipe_tab
