-- The command substitutions of a word, from left to right: those in an argument count, those inside
-- another substitution don't.
use Rattle.std.specs.Prelude.{List, [], ◌∷◌, ◌++◌}
use Rattle.em_syntax.specs.declared.tree.Command.TheOpen.{WordWhat-F}
use Rattle.em_syntax.specs.declared.tree.Script.{Script}
use Rattle.em_syntax.specs.declared.tree.Word.{Word, out-Word}
use Rattle.em_syntax.specs.declared.tree.WordPiece.{WordPiece}
use Rattle.em_syntax.specs.Pieces.{What, what_in}

abbrev pub script_in : What → List Script
script_in (WordWhat-F.Output s) = s ∷ []
script_in _ = []

abbrev pub scripts_in : List WordPiece → List Script
scripts_in [] = []
scripts_in (p ∷ ps) = script_in (what_in p) ++ scripts_in ps

abbrev pub scripts : Word → List Script
scripts w = scripts_in (out-Word w).pieces.items
