use Rattle.std.proofs.Common.{◌≡◌, ◌≤◌, ◌++◌, [], false}
use Rattle.em_recipe.specs.Commands.{kept, lines_from}
use Rattle.em_recipe.proofs.Lines.{rest}
use Rattle.em_recipe.proofs.command.commands.Given as goal

abbrev pub invariant-loop-i : goal.invariant-loop-i
invariant-loop-i l = record {
  begun : l.start ≤ l.i;
  so_far : l.commands ++ rest l.front l.expanded l.start l.i l.quoted ≡ kept l.front (lines_from [] false l.expanded);
}
