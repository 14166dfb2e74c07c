use Rattle.em_rules.proofs.Lawful.{recipe_last}
use Rattle.em_rules.proofs.laws.law_recipe_rule.Goals as goal

pub returns : goal.returns
returns c = recipe_last 0
