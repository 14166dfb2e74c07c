use Rattle.std.proofs.Common.{◌∙◌, None, ap}
use Rattle.em_rules.proofs.Indexing.{recipe_in, told_recipe, option_or-None}
use Rattle.em_rules.proofs.rules.Rules.recipe_rule.Goals as goal

pub returns-in-Some : goal.returns-in-Some
returns-in-Some c =
    let told = c.self.invariant c.in-Some.index c.in-Some.is c.args.name.now in
    rw (← c.self.view_is) (c.recipe.ensures ∙ ap recipe_in told ∙ told_recipe 0 c.self.inside.held.items c.args.name.now None ∙ option_or-None _)
