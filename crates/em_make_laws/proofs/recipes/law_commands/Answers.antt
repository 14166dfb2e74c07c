use Rattle.em_make_laws.proofs.Recipe.{commands_parted, commands_one, commands_empty, commands_plain}
use Rattle.em_make_laws.proofs.recipes.law_commands.Goals as goal

pub returns : goal.returns
returns c = record { parted = commands_parted; one = commands_one; empty = commands_empty; plain = commands_plain }
