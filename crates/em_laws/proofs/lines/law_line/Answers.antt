use Rattle.em_laws.proofs.Joining.{last_law, last_recipe_law, line_law, long_law, none_law, recipe_law}
use Rattle.em_laws.proofs.lines.law_line.Goals as goal

pub returns-clause-none : goal.returns-clause-none
returns-clause-none c = none_law

pub returns-clause-line : goal.returns-clause-line
returns-clause-line c = line_law

pub returns-clause-recipe : goal.returns-clause-recipe
returns-clause-recipe c = recipe_law

pub returns-clause-last : goal.returns-clause-last
returns-clause-last c = last_law

pub returns-clause-last_recipe : goal.returns-clause-last_recipe
returns-clause-last_recipe c = last_recipe_law

pub returns-clause-long : goal.returns-clause-long
returns-clause-long c = long_law
