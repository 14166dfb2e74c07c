use Rattle.em_recipe.proofs.Splitting.{commands_filled, commands_bare, commands_marked}
use Rattle.em_recipe.proofs.laws.law_commands.Goals as goal

pub returns : goal.returns
returns c = record { filled = commands_filled; bare = commands_bare; marked = commands_marked }
