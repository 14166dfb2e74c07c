-- When two trees are the same, wherever they lie in memory: a tree's shape has all that is in it
-- but the memory of its rows.
use Rattle.std.specs.Prelude.{ℕ, Bool, List, [], ◌∷◌, Option, Some, None}
use Rattle.em_syntax.specs.declared.tree.RedirectKind.{RedirectKind}
use Rattle.em_syntax.specs.declared.tree.Command.TheOpen.{Command-F, Compound-F, WordWhat-F, AndOr-F, Assigned-F, Branch-F, Case-F, For-F, If-F, Item-F, Joined-F, Loop-F, Pipeline-F, Redirect-F, Script-F, Simple-F, Word-F, WordPiece-F}
use Rattle.em_syntax.specs.declared.tree.Command.{Command, fold-Command}
use Rattle.em_syntax.specs.declared.tree.Compound.{Compound, fold-Compound}
use Rattle.em_syntax.specs.declared.tree.WordWhat.{WordWhat, fold-WordWhat}
use Rattle.em_syntax.specs.declared.tree.AndOr.{AndOr, fold-AndOr}
use Rattle.em_syntax.specs.declared.tree.Assigned.{Assigned, fold-Assigned}
use Rattle.em_syntax.specs.declared.tree.Branch.{Branch, fold-Branch}
use Rattle.em_syntax.specs.declared.tree.Case.{Case, fold-Case}
use Rattle.em_syntax.specs.declared.tree.For.{For, fold-For}
use Rattle.em_syntax.specs.declared.tree.If.{If, fold-If}
use Rattle.em_syntax.specs.declared.tree.Item.{Item, fold-Item}
use Rattle.em_syntax.specs.declared.tree.Joined.{Joined, fold-Joined}
use Rattle.em_syntax.specs.declared.tree.Loop.{Loop, fold-Loop}
use Rattle.em_syntax.specs.declared.tree.Pipeline.{Pipeline, fold-Pipeline}
use Rattle.em_syntax.specs.declared.tree.Redirect.{Redirect, fold-Redirect}
use Rattle.em_syntax.specs.declared.tree.Script.{Script, fold-Script}
use Rattle.em_syntax.specs.declared.tree.Simple.{Simple, fold-Simple}
use Rattle.em_syntax.specs.declared.tree.Value.{Value}
use Rattle.em_syntax.specs.declared.tree.Word.{Word, fold-Word}
use Rattle.em_syntax.specs.declared.tree.WordPiece.{WordPiece, fold-WordPiece}

pub data Shape : Type 0 where
  -- the end of a row
  nothing : Shape
  -- two parts, or an item of a row and those behind it
  pair : Shape → Shape → Shape
  bytes : List ℕ → Shape
  flag : Bool → Shape
  number : ℕ → Shape
  kind : RedirectKind → Shape
  -- an enum's variant, by its place
  variant : ℕ → Shape → Shape

abbrev pub row : List Shape → Shape
row [] = nothing
row (x ∷ xs) = pair x (row xs)

abbrev pub optional : Option Shape → Shape
optional None = nothing
optional (Some x) = pair x nothing

abbrev pub command_shaped : Command-F Shape Shape Shape Shape Shape Shape Shape Shape Shape Shape Shape Shape Shape Shape Shape Shape Shape Shape → Shape
command_shaped (Command-F.Simple s) = variant 0 s
command_shaped (Command-F.Compound c rs) = variant 1 (pair c (row rs.items))

abbrev pub compound_shaped : Compound-F Shape Shape Shape Shape Shape Shape Shape Shape Shape Shape Shape Shape Shape Shape Shape Shape Shape Shape → Shape
compound_shaped (Compound-F.Subshell a) = variant 0 a
compound_shaped (Compound-F.Group a) = variant 1 a
compound_shaped (Compound-F.If a) = variant 2 a
compound_shaped (Compound-F.Loop a) = variant 3 a
compound_shaped (Compound-F.For a) = variant 4 a
compound_shaped (Compound-F.Case a) = variant 5 a

abbrev pub value_shaped : Value → Shape
value_shaped v = pair (bytes v.name) (bytes v.form)

abbrev pub what_shaped : WordWhat-F Shape Shape Shape Shape Shape Shape Shape Shape Shape Shape Shape Shape Shape Shape Shape Shape Shape Shape → Shape
what_shaped (WordWhat-F.Bytes text) = variant 0 (bytes text)
what_shaped (WordWhat-F.Value v) = variant 1 (value_shaped v)
what_shaped (WordWhat-F.Argument v) = variant 2 (value_shaped v)
what_shaped WordWhat-F.End = variant 3 nothing
what_shaped (WordWhat-F.Output a) = variant 4 a

abbrev pub and_or_shaped : AndOr-F Shape Shape Shape Shape Shape Shape Shape Shape Shape Shape Shape Shape Shape Shape Shape Shape Shape Shape → Shape
and_or_shaped x = pair x.first (row x.rest.items)

abbrev pub assigned_shaped : Assigned-F Shape Shape Shape Shape Shape Shape Shape Shape Shape Shape Shape Shape Shape Shape Shape Shape Shape Shape → Shape
assigned_shaped x = pair (bytes x.name) x.value

abbrev pub branch_shaped : Branch-F Shape Shape Shape Shape Shape Shape Shape Shape Shape Shape Shape Shape Shape Shape Shape Shape Shape Shape → Shape
branch_shaped x = pair x.test x.body

abbrev pub case_shaped : Case-F Shape Shape Shape Shape Shape Shape Shape Shape Shape Shape Shape Shape Shape Shape Shape Shape Shape Shape → Shape
case_shaped x = pair x.word (row x.items.items)

abbrev pub for_shaped : For-F Shape Shape Shape Shape Shape Shape Shape Shape Shape Shape Shape Shape Shape Shape Shape Shape Shape Shape → Shape
for_shaped x = pair (bytes x.name) (pair (row x.words.items) x.body)

abbrev pub if_shaped : If-F Shape Shape Shape Shape Shape Shape Shape Shape Shape Shape Shape Shape Shape Shape Shape Shape Shape Shape → Shape
if_shaped x = pair (row x.branches.items) (optional x.other)

abbrev pub item_shaped : Item-F Shape Shape Shape Shape Shape Shape Shape Shape Shape Shape Shape Shape Shape Shape Shape Shape Shape Shape → Shape
item_shaped x = pair (row x.patterns.items) (optional x.body)

abbrev pub joined_shaped : Joined-F Shape Shape Shape Shape Shape Shape Shape Shape Shape Shape Shape Shape Shape Shape Shape Shape Shape Shape → Shape
joined_shaped x = pair (flag x.and) x.next

abbrev pub loop_shaped : Loop-F Shape Shape Shape Shape Shape Shape Shape Shape Shape Shape Shape Shape Shape Shape Shape Shape Shape Shape → Shape
loop_shaped x = pair (flag x.until) (pair x.test x.body)

abbrev pub pipeline_shaped : Pipeline-F Shape Shape Shape Shape Shape Shape Shape Shape Shape Shape Shape Shape Shape Shape Shape Shape Shape Shape → Shape
pipeline_shaped x = pair (flag x.not) (row x.stages.items)

abbrev pub redirect_shaped : Redirect-F Shape Shape Shape Shape Shape Shape Shape Shape Shape Shape Shape Shape Shape Shape Shape Shape Shape Shape → Shape
redirect_shaped x = pair (number x.fd) (pair (kind x.kind) x.target)

abbrev pub script_shaped : Script-F Shape Shape Shape Shape Shape Shape Shape Shape Shape Shape Shape Shape Shape Shape Shape Shape Shape Shape → Shape
script_shaped x = row x.list.items

abbrev pub simple_shaped : Simple-F Shape Shape Shape Shape Shape Shape Shape Shape Shape Shape Shape Shape Shape Shape Shape Shape Shape Shape → Shape
simple_shaped x = pair (row x.assigned.items) (pair (row x.words.items) (row x.redirects.items))

abbrev pub word_shaped : Word-F Shape Shape Shape Shape Shape Shape Shape Shape Shape Shape Shape Shape Shape Shape Shape Shape Shape Shape → Shape
word_shaped x = row x.pieces.items

abbrev pub piece_shaped : WordPiece-F Shape Shape Shape Shape Shape Shape Shape Shape Shape Shape Shape Shape Shape Shape Shape Shape Shape Shape → Shape
piece_shaped x = pair (flag x.quoted) x.what

-- FOLDS: written by tools/shapes.py
unfoldable pub command_shape : Command → Shape
command_shape = fold-Command Shape Shape Shape Shape Shape Shape Shape Shape Shape Shape Shape Shape Shape Shape Shape Shape Shape Shape command_shaped compound_shaped what_shaped and_or_shaped assigned_shaped branch_shaped case_shaped for_shaped if_shaped item_shaped joined_shaped loop_shaped pipeline_shaped redirect_shaped script_shaped simple_shaped word_shaped piece_shaped

unfoldable pub compound_shape : Compound → Shape
compound_shape = fold-Compound Shape Shape Shape Shape Shape Shape Shape Shape Shape Shape Shape Shape Shape Shape Shape Shape Shape Shape command_shaped compound_shaped what_shaped and_or_shaped assigned_shaped branch_shaped case_shaped for_shaped if_shaped item_shaped joined_shaped loop_shaped pipeline_shaped redirect_shaped script_shaped simple_shaped word_shaped piece_shaped

unfoldable pub what_shape : WordWhat → Shape
what_shape = fold-WordWhat Shape Shape Shape Shape Shape Shape Shape Shape Shape Shape Shape Shape Shape Shape Shape Shape Shape Shape command_shaped compound_shaped what_shaped and_or_shaped assigned_shaped branch_shaped case_shaped for_shaped if_shaped item_shaped joined_shaped loop_shaped pipeline_shaped redirect_shaped script_shaped simple_shaped word_shaped piece_shaped

unfoldable pub and_or_shape : AndOr → Shape
and_or_shape = fold-AndOr Shape Shape Shape Shape Shape Shape Shape Shape Shape Shape Shape Shape Shape Shape Shape Shape Shape Shape command_shaped compound_shaped what_shaped and_or_shaped assigned_shaped branch_shaped case_shaped for_shaped if_shaped item_shaped joined_shaped loop_shaped pipeline_shaped redirect_shaped script_shaped simple_shaped word_shaped piece_shaped

unfoldable pub assigned_shape : Assigned → Shape
assigned_shape = fold-Assigned Shape Shape Shape Shape Shape Shape Shape Shape Shape Shape Shape Shape Shape Shape Shape Shape Shape Shape command_shaped compound_shaped what_shaped and_or_shaped assigned_shaped branch_shaped case_shaped for_shaped if_shaped item_shaped joined_shaped loop_shaped pipeline_shaped redirect_shaped script_shaped simple_shaped word_shaped piece_shaped

unfoldable pub branch_shape : Branch → Shape
branch_shape = fold-Branch Shape Shape Shape Shape Shape Shape Shape Shape Shape Shape Shape Shape Shape Shape Shape Shape Shape Shape command_shaped compound_shaped what_shaped and_or_shaped assigned_shaped branch_shaped case_shaped for_shaped if_shaped item_shaped joined_shaped loop_shaped pipeline_shaped redirect_shaped script_shaped simple_shaped word_shaped piece_shaped

unfoldable pub case_shape : Case → Shape
case_shape = fold-Case Shape Shape Shape Shape Shape Shape Shape Shape Shape Shape Shape Shape Shape Shape Shape Shape Shape Shape command_shaped compound_shaped what_shaped and_or_shaped assigned_shaped branch_shaped case_shaped for_shaped if_shaped item_shaped joined_shaped loop_shaped pipeline_shaped redirect_shaped script_shaped simple_shaped word_shaped piece_shaped

unfoldable pub for_shape : For → Shape
for_shape = fold-For Shape Shape Shape Shape Shape Shape Shape Shape Shape Shape Shape Shape Shape Shape Shape Shape Shape Shape command_shaped compound_shaped what_shaped and_or_shaped assigned_shaped branch_shaped case_shaped for_shaped if_shaped item_shaped joined_shaped loop_shaped pipeline_shaped redirect_shaped script_shaped simple_shaped word_shaped piece_shaped

unfoldable pub if_shape : If → Shape
if_shape = fold-If Shape Shape Shape Shape Shape Shape Shape Shape Shape Shape Shape Shape Shape Shape Shape Shape Shape Shape command_shaped compound_shaped what_shaped and_or_shaped assigned_shaped branch_shaped case_shaped for_shaped if_shaped item_shaped joined_shaped loop_shaped pipeline_shaped redirect_shaped script_shaped simple_shaped word_shaped piece_shaped

unfoldable pub item_shape : Item → Shape
item_shape = fold-Item Shape Shape Shape Shape Shape Shape Shape Shape Shape Shape Shape Shape Shape Shape Shape Shape Shape Shape command_shaped compound_shaped what_shaped and_or_shaped assigned_shaped branch_shaped case_shaped for_shaped if_shaped item_shaped joined_shaped loop_shaped pipeline_shaped redirect_shaped script_shaped simple_shaped word_shaped piece_shaped

unfoldable pub joined_shape : Joined → Shape
joined_shape = fold-Joined Shape Shape Shape Shape Shape Shape Shape Shape Shape Shape Shape Shape Shape Shape Shape Shape Shape Shape command_shaped compound_shaped what_shaped and_or_shaped assigned_shaped branch_shaped case_shaped for_shaped if_shaped item_shaped joined_shaped loop_shaped pipeline_shaped redirect_shaped script_shaped simple_shaped word_shaped piece_shaped

unfoldable pub loop_shape : Loop → Shape
loop_shape = fold-Loop Shape Shape Shape Shape Shape Shape Shape Shape Shape Shape Shape Shape Shape Shape Shape Shape Shape Shape command_shaped compound_shaped what_shaped and_or_shaped assigned_shaped branch_shaped case_shaped for_shaped if_shaped item_shaped joined_shaped loop_shaped pipeline_shaped redirect_shaped script_shaped simple_shaped word_shaped piece_shaped

unfoldable pub pipeline_shape : Pipeline → Shape
pipeline_shape = fold-Pipeline Shape Shape Shape Shape Shape Shape Shape Shape Shape Shape Shape Shape Shape Shape Shape Shape Shape Shape command_shaped compound_shaped what_shaped and_or_shaped assigned_shaped branch_shaped case_shaped for_shaped if_shaped item_shaped joined_shaped loop_shaped pipeline_shaped redirect_shaped script_shaped simple_shaped word_shaped piece_shaped

unfoldable pub redirect_shape : Redirect → Shape
redirect_shape = fold-Redirect Shape Shape Shape Shape Shape Shape Shape Shape Shape Shape Shape Shape Shape Shape Shape Shape Shape Shape command_shaped compound_shaped what_shaped and_or_shaped assigned_shaped branch_shaped case_shaped for_shaped if_shaped item_shaped joined_shaped loop_shaped pipeline_shaped redirect_shaped script_shaped simple_shaped word_shaped piece_shaped

unfoldable pub script_shape : Script → Shape
script_shape = fold-Script Shape Shape Shape Shape Shape Shape Shape Shape Shape Shape Shape Shape Shape Shape Shape Shape Shape Shape command_shaped compound_shaped what_shaped and_or_shaped assigned_shaped branch_shaped case_shaped for_shaped if_shaped item_shaped joined_shaped loop_shaped pipeline_shaped redirect_shaped script_shaped simple_shaped word_shaped piece_shaped

unfoldable pub simple_shape : Simple → Shape
simple_shape = fold-Simple Shape Shape Shape Shape Shape Shape Shape Shape Shape Shape Shape Shape Shape Shape Shape Shape Shape Shape command_shaped compound_shaped what_shaped and_or_shaped assigned_shaped branch_shaped case_shaped for_shaped if_shaped item_shaped joined_shaped loop_shaped pipeline_shaped redirect_shaped script_shaped simple_shaped word_shaped piece_shaped

unfoldable pub word_shape : Word → Shape
word_shape = fold-Word Shape Shape Shape Shape Shape Shape Shape Shape Shape Shape Shape Shape Shape Shape Shape Shape Shape Shape command_shaped compound_shaped what_shaped and_or_shaped assigned_shaped branch_shaped case_shaped for_shaped if_shaped item_shaped joined_shaped loop_shaped pipeline_shaped redirect_shaped script_shaped simple_shaped word_shaped piece_shaped

unfoldable pub piece_shape : WordPiece → Shape
piece_shape = fold-WordPiece Shape Shape Shape Shape Shape Shape Shape Shape Shape Shape Shape Shape Shape Shape Shape Shape Shape Shape command_shaped compound_shaped what_shaped and_or_shaped assigned_shaped branch_shaped case_shaped for_shaped if_shaped item_shaped joined_shaped loop_shaped pipeline_shaped redirect_shaped script_shaped simple_shaped word_shaped piece_shaped
