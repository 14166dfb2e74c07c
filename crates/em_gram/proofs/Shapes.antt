-- The shape of each tree, in terms of its parts. Written by tools/shapes.py.
use Rattle.std.proofs.Common.{◌≡◌, ◌⊎◌, inl, inr, ℕ, List, map, refl, ap, sym, ◌∙◌, Option, Some, None}
use Rattle.std.specs.Option.{option_map}
use Rattle.std.specs.declared.vec.Vec.{Vec}
use Rattle.em_gram.specs.Same.{Shape, nothing, pair, bytes, flag, number, kind, variant, row, optional, value_shaped}
use Rattle.em_gram.specs.Same.{command_shaped, compound_shaped, what_shaped, and_or_shaped, assigned_shaped, branch_shaped, case_shaped, for_shaped, if_shaped, item_shaped, joined_shaped, loop_shaped, pipeline_shaped, redirect_shaped, script_shaped, simple_shaped, word_shaped, piece_shaped}
use Rattle.em_gram.specs.Same.{command_shape, compound_shape, what_shape, and_or_shape, assigned_shape, branch_shape, case_shape, for_shape, if_shape, item_shape, joined_shape, loop_shape, pipeline_shape, redirect_shape, script_shape, simple_shape, word_shape, piece_shape}
use Rattle.em_syntax.specs.declared.tree.Command.TheOpen.{Command-F, Compound-F, WordWhat-F}
use Rattle.em_syntax.specs.declared.tree.Command.TheShapes.{former-If-other}
use Rattle.em_syntax.specs.declared.tree.Command.{Command, roll-Command, fold-roll-Command, out-Command, roll-out-Command}
use Rattle.em_syntax.specs.declared.tree.Command.TheVariants.{Simple as the-Command-Simple, rolls-Simple as rolls-Command-Simple, Compound as the-Command-Compound, rolls-Compound as rolls-Command-Compound}
use Rattle.em_syntax.specs.declared.tree.Compound.{Compound, roll-Compound, fold-roll-Compound, out-Compound, roll-out-Compound}
use Rattle.em_syntax.specs.declared.tree.Compound.TheVariants.{Subshell as the-Compound-Subshell, rolls-Subshell as rolls-Compound-Subshell, Group as the-Compound-Group, rolls-Group as rolls-Compound-Group, If as the-Compound-If, rolls-If as rolls-Compound-If, Loop as the-Compound-Loop, rolls-Loop as rolls-Compound-Loop, For as the-Compound-For, rolls-For as rolls-Compound-For, Case as the-Compound-Case, rolls-Case as rolls-Compound-Case}
use Rattle.em_syntax.specs.declared.tree.WordWhat.{WordWhat, roll-WordWhat, fold-roll-WordWhat, out-WordWhat, roll-out-WordWhat}
use Rattle.em_syntax.specs.declared.tree.WordWhat.TheVariants.{Bytes as the-WordWhat-Bytes, rolls-Bytes as rolls-WordWhat-Bytes, Value as the-WordWhat-Value, rolls-Value as rolls-WordWhat-Value, Argument as the-WordWhat-Argument, rolls-Argument as rolls-WordWhat-Argument, End as the-WordWhat-End, rolls-End as rolls-WordWhat-End, Output as the-WordWhat-Output, rolls-Output as rolls-WordWhat-Output}
use Rattle.em_syntax.specs.declared.tree.Value.{Value}
use Rattle.em_syntax.specs.declared.tree.AndOr.{AndOr, out-AndOr, fold_out-AndOr}
use Rattle.em_syntax.specs.declared.tree.Assigned.{Assigned, out-Assigned, fold_out-Assigned}
use Rattle.em_syntax.specs.declared.tree.Branch.{Branch, out-Branch, fold_out-Branch}
use Rattle.em_syntax.specs.declared.tree.Case.{Case, out-Case, fold_out-Case}
use Rattle.em_syntax.specs.declared.tree.For.{For, out-For, fold_out-For}
use Rattle.em_syntax.specs.declared.tree.If.{If, out-If, fold_out-If}
use Rattle.em_syntax.specs.declared.tree.Item.{Item, out-Item, fold_out-Item}
use Rattle.em_syntax.specs.declared.tree.Joined.{Joined, out-Joined, fold_out-Joined}
use Rattle.em_syntax.specs.declared.tree.Loop.{Loop, out-Loop, fold_out-Loop}
use Rattle.em_syntax.specs.declared.tree.Pipeline.{Pipeline, out-Pipeline, fold_out-Pipeline}
use Rattle.em_syntax.specs.declared.tree.Redirect.{Redirect, out-Redirect, fold_out-Redirect}
use Rattle.em_syntax.specs.declared.tree.Script.{Script, out-Script, fold_out-Script}
use Rattle.em_syntax.specs.declared.tree.Simple.{Simple, out-Simple, fold_out-Simple}
use Rattle.em_syntax.specs.declared.tree.Word.{Word, out-Word, fold_out-Word}
use Rattle.em_syntax.specs.declared.tree.WordPiece.{WordPiece, out-WordPiece, fold_out-WordPiece}

script_option : (o : Option Script) → (former-If-other).map Script Shape script_shape o ≡ option_map script_shape o
script_option None = refl
script_option (Some x) = refl

pub and_or_shape_is : (d : AndOr) → and_or_shape d ≡ (pair (pipeline_shape (out-AndOr d).first) (row (map joined_shape (out-AndOr d).rest.items)))
unfolding command_shape compound_shape what_shape and_or_shape assigned_shape branch_shape case_shape for_shape if_shape item_shape joined_shape loop_shape pipeline_shape redirect_shape script_shape simple_shape word_shape piece_shape
and_or_shape_is d = fold_out-AndOr Shape Shape Shape Shape Shape Shape Shape Shape Shape Shape Shape Shape Shape Shape Shape Shape Shape Shape command_shaped compound_shaped what_shaped and_or_shaped assigned_shaped branch_shaped case_shaped for_shaped if_shaped item_shaped joined_shaped loop_shaped pipeline_shaped redirect_shaped script_shaped simple_shaped word_shaped piece_shaped d

pub assigned_shape_is : (d : Assigned) → assigned_shape d ≡ (pair (bytes (out-Assigned d).name) (word_shape (out-Assigned d).value))
unfolding command_shape compound_shape what_shape and_or_shape assigned_shape branch_shape case_shape for_shape if_shape item_shape joined_shape loop_shape pipeline_shape redirect_shape script_shape simple_shape word_shape piece_shape
assigned_shape_is d = fold_out-Assigned Shape Shape Shape Shape Shape Shape Shape Shape Shape Shape Shape Shape Shape Shape Shape Shape Shape Shape command_shaped compound_shaped what_shaped and_or_shaped assigned_shaped branch_shaped case_shaped for_shaped if_shaped item_shaped joined_shaped loop_shaped pipeline_shaped redirect_shaped script_shaped simple_shaped word_shaped piece_shaped d

pub branch_shape_is : (d : Branch) → branch_shape d ≡ (pair (script_shape (out-Branch d).test) (script_shape (out-Branch d).body))
unfolding command_shape compound_shape what_shape and_or_shape assigned_shape branch_shape case_shape for_shape if_shape item_shape joined_shape loop_shape pipeline_shape redirect_shape script_shape simple_shape word_shape piece_shape
branch_shape_is d = fold_out-Branch Shape Shape Shape Shape Shape Shape Shape Shape Shape Shape Shape Shape Shape Shape Shape Shape Shape Shape command_shaped compound_shaped what_shaped and_or_shaped assigned_shaped branch_shaped case_shaped for_shaped if_shaped item_shaped joined_shaped loop_shaped pipeline_shaped redirect_shaped script_shaped simple_shaped word_shaped piece_shaped d

pub case_shape_is : (d : Case) → case_shape d ≡ (pair (word_shape (out-Case d).word) (row (map item_shape (out-Case d).items.items)))
unfolding command_shape compound_shape what_shape and_or_shape assigned_shape branch_shape case_shape for_shape if_shape item_shape joined_shape loop_shape pipeline_shape redirect_shape script_shape simple_shape word_shape piece_shape
case_shape_is d = fold_out-Case Shape Shape Shape Shape Shape Shape Shape Shape Shape Shape Shape Shape Shape Shape Shape Shape Shape Shape command_shaped compound_shaped what_shaped and_or_shaped assigned_shaped branch_shaped case_shaped for_shaped if_shaped item_shaped joined_shaped loop_shaped pipeline_shaped redirect_shaped script_shaped simple_shaped word_shaped piece_shaped d

pub for_shape_is : (d : For) → for_shape d ≡ (pair (bytes (out-For d).name) (pair (row (map word_shape (out-For d).words.items)) (script_shape (out-For d).body)))
unfolding command_shape compound_shape what_shape and_or_shape assigned_shape branch_shape case_shape for_shape if_shape item_shape joined_shape loop_shape pipeline_shape redirect_shape script_shape simple_shape word_shape piece_shape
for_shape_is d = fold_out-For Shape Shape Shape Shape Shape Shape Shape Shape Shape Shape Shape Shape Shape Shape Shape Shape Shape Shape command_shaped compound_shaped what_shaped and_or_shaped assigned_shaped branch_shaped case_shaped for_shaped if_shaped item_shaped joined_shaped loop_shaped pipeline_shaped redirect_shaped script_shaped simple_shaped word_shaped piece_shaped d

pub if_shape_is : (d : If) → if_shape d ≡ (pair (row (map branch_shape (out-If d).branches.items)) (optional (option_map script_shape (out-If d).other)))
unfolding command_shape compound_shape what_shape and_or_shape assigned_shape branch_shape case_shape for_shape if_shape item_shape joined_shape loop_shape pipeline_shape redirect_shape script_shape simple_shape word_shape piece_shape
if_shape_is d = fold_out-If Shape Shape Shape Shape Shape Shape Shape Shape Shape Shape Shape Shape Shape Shape Shape Shape Shape Shape command_shaped compound_shaped what_shaped and_or_shaped assigned_shaped branch_shaped case_shaped for_shaped if_shaped item_shaped joined_shaped loop_shaped pipeline_shaped redirect_shaped script_shaped simple_shaped word_shaped piece_shaped d ∙ ap (λ z. pair (row (map branch_shape (out-If d).branches.items)) (optional (z))) (script_option (out-If d).other)

pub item_shape_is : (d : Item) → item_shape d ≡ (pair (row (map word_shape (out-Item d).patterns.items)) (optional (option_map script_shape (out-Item d).body)))
unfolding command_shape compound_shape what_shape and_or_shape assigned_shape branch_shape case_shape for_shape if_shape item_shape joined_shape loop_shape pipeline_shape redirect_shape script_shape simple_shape word_shape piece_shape
item_shape_is d = fold_out-Item Shape Shape Shape Shape Shape Shape Shape Shape Shape Shape Shape Shape Shape Shape Shape Shape Shape Shape command_shaped compound_shaped what_shaped and_or_shaped assigned_shaped branch_shaped case_shaped for_shaped if_shaped item_shaped joined_shaped loop_shaped pipeline_shaped redirect_shaped script_shaped simple_shaped word_shaped piece_shaped d ∙ ap (λ z. pair (row (map word_shape (out-Item d).patterns.items)) (optional (z))) (script_option (out-Item d).body)

pub joined_shape_is : (d : Joined) → joined_shape d ≡ (pair (flag (out-Joined d).and) (pipeline_shape (out-Joined d).next))
unfolding command_shape compound_shape what_shape and_or_shape assigned_shape branch_shape case_shape for_shape if_shape item_shape joined_shape loop_shape pipeline_shape redirect_shape script_shape simple_shape word_shape piece_shape
joined_shape_is d = fold_out-Joined Shape Shape Shape Shape Shape Shape Shape Shape Shape Shape Shape Shape Shape Shape Shape Shape Shape Shape command_shaped compound_shaped what_shaped and_or_shaped assigned_shaped branch_shaped case_shaped for_shaped if_shaped item_shaped joined_shaped loop_shaped pipeline_shaped redirect_shaped script_shaped simple_shaped word_shaped piece_shaped d

pub loop_shape_is : (d : Loop) → loop_shape d ≡ (pair (flag (out-Loop d).until) (pair (script_shape (out-Loop d).test) (script_shape (out-Loop d).body)))
unfolding command_shape compound_shape what_shape and_or_shape assigned_shape branch_shape case_shape for_shape if_shape item_shape joined_shape loop_shape pipeline_shape redirect_shape script_shape simple_shape word_shape piece_shape
loop_shape_is d = fold_out-Loop Shape Shape Shape Shape Shape Shape Shape Shape Shape Shape Shape Shape Shape Shape Shape Shape Shape Shape command_shaped compound_shaped what_shaped and_or_shaped assigned_shaped branch_shaped case_shaped for_shaped if_shaped item_shaped joined_shaped loop_shaped pipeline_shaped redirect_shaped script_shaped simple_shaped word_shaped piece_shaped d

pub pipeline_shape_is : (d : Pipeline) → pipeline_shape d ≡ (pair (flag (out-Pipeline d).not) (row (map command_shape (out-Pipeline d).stages.items)))
unfolding command_shape compound_shape what_shape and_or_shape assigned_shape branch_shape case_shape for_shape if_shape item_shape joined_shape loop_shape pipeline_shape redirect_shape script_shape simple_shape word_shape piece_shape
pipeline_shape_is d = fold_out-Pipeline Shape Shape Shape Shape Shape Shape Shape Shape Shape Shape Shape Shape Shape Shape Shape Shape Shape Shape command_shaped compound_shaped what_shaped and_or_shaped assigned_shaped branch_shaped case_shaped for_shaped if_shaped item_shaped joined_shaped loop_shaped pipeline_shaped redirect_shaped script_shaped simple_shaped word_shaped piece_shaped d

pub redirect_shape_is : (d : Redirect) → redirect_shape d ≡ (pair (number (out-Redirect d).fd) (pair (kind (out-Redirect d).kind) (word_shape (out-Redirect d).target)))
unfolding command_shape compound_shape what_shape and_or_shape assigned_shape branch_shape case_shape for_shape if_shape item_shape joined_shape loop_shape pipeline_shape redirect_shape script_shape simple_shape word_shape piece_shape
redirect_shape_is d = fold_out-Redirect Shape Shape Shape Shape Shape Shape Shape Shape Shape Shape Shape Shape Shape Shape Shape Shape Shape Shape command_shaped compound_shaped what_shaped and_or_shaped assigned_shaped branch_shaped case_shaped for_shaped if_shaped item_shaped joined_shaped loop_shaped pipeline_shaped redirect_shaped script_shaped simple_shaped word_shaped piece_shaped d

pub script_shape_is : (d : Script) → script_shape d ≡ (row (map and_or_shape (out-Script d).list.items))
unfolding command_shape compound_shape what_shape and_or_shape assigned_shape branch_shape case_shape for_shape if_shape item_shape joined_shape loop_shape pipeline_shape redirect_shape script_shape simple_shape word_shape piece_shape
script_shape_is d = fold_out-Script Shape Shape Shape Shape Shape Shape Shape Shape Shape Shape Shape Shape Shape Shape Shape Shape Shape Shape command_shaped compound_shaped what_shaped and_or_shaped assigned_shaped branch_shaped case_shaped for_shaped if_shaped item_shaped joined_shaped loop_shaped pipeline_shaped redirect_shaped script_shaped simple_shaped word_shaped piece_shaped d

pub simple_shape_is : (d : Simple) → simple_shape d ≡ (pair (row (map assigned_shape (out-Simple d).assigned.items)) (pair (row (map word_shape (out-Simple d).words.items)) (row (map redirect_shape (out-Simple d).redirects.items))))
unfolding command_shape compound_shape what_shape and_or_shape assigned_shape branch_shape case_shape for_shape if_shape item_shape joined_shape loop_shape pipeline_shape redirect_shape script_shape simple_shape word_shape piece_shape
simple_shape_is d = fold_out-Simple Shape Shape Shape Shape Shape Shape Shape Shape Shape Shape Shape Shape Shape Shape Shape Shape Shape Shape command_shaped compound_shaped what_shaped and_or_shaped assigned_shaped branch_shaped case_shaped for_shaped if_shaped item_shaped joined_shaped loop_shaped pipeline_shaped redirect_shaped script_shaped simple_shaped word_shaped piece_shaped d

pub word_shape_is : (d : Word) → word_shape d ≡ (row (map piece_shape (out-Word d).pieces.items))
unfolding command_shape compound_shape what_shape and_or_shape assigned_shape branch_shape case_shape for_shape if_shape item_shape joined_shape loop_shape pipeline_shape redirect_shape script_shape simple_shape word_shape piece_shape
word_shape_is d = fold_out-Word Shape Shape Shape Shape Shape Shape Shape Shape Shape Shape Shape Shape Shape Shape Shape Shape Shape Shape command_shaped compound_shaped what_shaped and_or_shaped assigned_shaped branch_shaped case_shaped for_shaped if_shaped item_shaped joined_shaped loop_shaped pipeline_shaped redirect_shaped script_shaped simple_shaped word_shaped piece_shaped d

pub piece_shape_is : (d : WordPiece) → piece_shape d ≡ (pair (flag (out-WordPiece d).quoted) (what_shape (out-WordPiece d).what))
unfolding command_shape compound_shape what_shape and_or_shape assigned_shape branch_shape case_shape for_shape if_shape item_shape joined_shape loop_shape pipeline_shape redirect_shape script_shape simple_shape word_shape piece_shape
piece_shape_is d = fold_out-WordPiece Shape Shape Shape Shape Shape Shape Shape Shape Shape Shape Shape Shape Shape Shape Shape Shape Shape Shape command_shaped compound_shaped what_shaped and_or_shaped assigned_shaped branch_shaped case_shaped for_shaped if_shaped item_shaped joined_shaped loop_shaped pipeline_shaped redirect_shaped script_shaped simple_shaped word_shaped piece_shaped d

pub command_shape_Simple : (x : Simple) → command_shape (the-Command-Simple x) ≡ variant 0 (simple_shape x)
unfolding command_shape compound_shape what_shape and_or_shape assigned_shape branch_shape case_shape for_shape if_shape item_shape joined_shape loop_shape pipeline_shape redirect_shape script_shape simple_shape word_shape piece_shape
command_shape_Simple x = ap command_shape (sym (rolls-Command-Simple x)) ∙ fold-roll-Command Shape Shape Shape Shape Shape Shape Shape Shape Shape Shape Shape Shape Shape Shape Shape Shape Shape Shape command_shaped compound_shaped what_shaped and_or_shaped assigned_shaped branch_shaped case_shaped for_shaped if_shaped item_shaped joined_shaped loop_shaped pipeline_shaped redirect_shaped script_shaped simple_shaped word_shaped piece_shaped (Command-F.Simple x)

pub command_shape_Compound : (x : Compound) (y : Vec Redirect _) → command_shape (the-Command-Compound x y) ≡ variant 1 (pair (compound_shape x) (row (map redirect_shape y.items)))
unfolding command_shape compound_shape what_shape and_or_shape assigned_shape branch_shape case_shape for_shape if_shape item_shape joined_shape loop_shape pipeline_shape redirect_shape script_shape simple_shape word_shape piece_shape
command_shape_Compound x y = ap command_shape (sym (rolls-Command-Compound x y)) ∙ fold-roll-Command Shape Shape Shape Shape Shape Shape Shape Shape Shape Shape Shape Shape Shape Shape Shape Shape Shape Shape command_shaped compound_shaped what_shaped and_or_shaped assigned_shaped branch_shaped case_shaped for_shaped if_shaped item_shaped joined_shaped loop_shaped pipeline_shaped redirect_shaped script_shaped simple_shaped word_shaped piece_shaped (Command-F.Compound x y)

abbrev pub Command_case : Command → Type 0
Command_case d = (((x : Simple) × (d ≡ (the-Command-Simple x))) ⊎ ((x : Compound) × (y : Vec Redirect _) × (d ≡ (the-Command-Compound x y))))

pub command_cases : (d : Command) → Command_case d
command_cases d = at (out-Command d) (roll-out-Command d)
  where
    at : (f : Command-F Command Compound WordWhat AndOr Assigned Branch Case For If Item Joined Loop Pipeline Redirect Script Simple Word WordPiece) → roll-Command f ≡ d → Command_case d
    at (Command-F.Simple x) e = inl (x, sym e ∙ rolls-Command-Simple x)
    at (Command-F.Compound x y) e = inr ((x, y, sym e ∙ rolls-Command-Compound x y))

pub compound_shape_Subshell : (x : Script) → compound_shape (the-Compound-Subshell x) ≡ variant 0 (script_shape x)
unfolding command_shape compound_shape what_shape and_or_shape assigned_shape branch_shape case_shape for_shape if_shape item_shape joined_shape loop_shape pipeline_shape redirect_shape script_shape simple_shape word_shape piece_shape
compound_shape_Subshell x = ap compound_shape (sym (rolls-Compound-Subshell x)) ∙ fold-roll-Compound Shape Shape Shape Shape Shape Shape Shape Shape Shape Shape Shape Shape Shape Shape Shape Shape Shape Shape command_shaped compound_shaped what_shaped and_or_shaped assigned_shaped branch_shaped case_shaped for_shaped if_shaped item_shaped joined_shaped loop_shaped pipeline_shaped redirect_shaped script_shaped simple_shaped word_shaped piece_shaped (Compound-F.Subshell x)

pub compound_shape_Group : (x : Script) → compound_shape (the-Compound-Group x) ≡ variant 1 (script_shape x)
unfolding command_shape compound_shape what_shape and_or_shape assigned_shape branch_shape case_shape for_shape if_shape item_shape joined_shape loop_shape pipeline_shape redirect_shape script_shape simple_shape word_shape piece_shape
compound_shape_Group x = ap compound_shape (sym (rolls-Compound-Group x)) ∙ fold-roll-Compound Shape Shape Shape Shape Shape Shape Shape Shape Shape Shape Shape Shape Shape Shape Shape Shape Shape Shape command_shaped compound_shaped what_shaped and_or_shaped assigned_shaped branch_shaped case_shaped for_shaped if_shaped item_shaped joined_shaped loop_shaped pipeline_shaped redirect_shaped script_shaped simple_shaped word_shaped piece_shaped (Compound-F.Group x)

pub compound_shape_If : (x : If) → compound_shape (the-Compound-If x) ≡ variant 2 (if_shape x)
unfolding command_shape compound_shape what_shape and_or_shape assigned_shape branch_shape case_shape for_shape if_shape item_shape joined_shape loop_shape pipeline_shape redirect_shape script_shape simple_shape word_shape piece_shape
compound_shape_If x = ap compound_shape (sym (rolls-Compound-If x)) ∙ fold-roll-Compound Shape Shape Shape Shape Shape Shape Shape Shape Shape Shape Shape Shape Shape Shape Shape Shape Shape Shape command_shaped compound_shaped what_shaped and_or_shaped assigned_shaped branch_shaped case_shaped for_shaped if_shaped item_shaped joined_shaped loop_shaped pipeline_shaped redirect_shaped script_shaped simple_shaped word_shaped piece_shaped (Compound-F.If x)

pub compound_shape_Loop : (x : Loop) → compound_shape (the-Compound-Loop x) ≡ variant 3 (loop_shape x)
unfolding command_shape compound_shape what_shape and_or_shape assigned_shape branch_shape case_shape for_shape if_shape item_shape joined_shape loop_shape pipeline_shape redirect_shape script_shape simple_shape word_shape piece_shape
compound_shape_Loop x = ap compound_shape (sym (rolls-Compound-Loop x)) ∙ fold-roll-Compound Shape Shape Shape Shape Shape Shape Shape Shape Shape Shape Shape Shape Shape Shape Shape Shape Shape Shape command_shaped compound_shaped what_shaped and_or_shaped assigned_shaped branch_shaped case_shaped for_shaped if_shaped item_shaped joined_shaped loop_shaped pipeline_shaped redirect_shaped script_shaped simple_shaped word_shaped piece_shaped (Compound-F.Loop x)

pub compound_shape_For : (x : For) → compound_shape (the-Compound-For x) ≡ variant 4 (for_shape x)
unfolding command_shape compound_shape what_shape and_or_shape assigned_shape branch_shape case_shape for_shape if_shape item_shape joined_shape loop_shape pipeline_shape redirect_shape script_shape simple_shape word_shape piece_shape
compound_shape_For x = ap compound_shape (sym (rolls-Compound-For x)) ∙ fold-roll-Compound Shape Shape Shape Shape Shape Shape Shape Shape Shape Shape Shape Shape Shape Shape Shape Shape Shape Shape command_shaped compound_shaped what_shaped and_or_shaped assigned_shaped branch_shaped case_shaped for_shaped if_shaped item_shaped joined_shaped loop_shaped pipeline_shaped redirect_shaped script_shaped simple_shaped word_shaped piece_shaped (Compound-F.For x)

pub compound_shape_Case : (x : Case) → compound_shape (the-Compound-Case x) ≡ variant 5 (case_shape x)
unfolding command_shape compound_shape what_shape and_or_shape assigned_shape branch_shape case_shape for_shape if_shape item_shape joined_shape loop_shape pipeline_shape redirect_shape script_shape simple_shape word_shape piece_shape
compound_shape_Case x = ap compound_shape (sym (rolls-Compound-Case x)) ∙ fold-roll-Compound Shape Shape Shape Shape Shape Shape Shape Shape Shape Shape Shape Shape Shape Shape Shape Shape Shape Shape command_shaped compound_shaped what_shaped and_or_shaped assigned_shaped branch_shaped case_shaped for_shaped if_shaped item_shaped joined_shaped loop_shaped pipeline_shaped redirect_shaped script_shaped simple_shaped word_shaped piece_shaped (Compound-F.Case x)

abbrev pub Compound_case : Compound → Type 0
Compound_case d = (((x : Script) × (d ≡ (the-Compound-Subshell x))) ⊎ (((x : Script) × (d ≡ (the-Compound-Group x))) ⊎ (((x : If) × (d ≡ (the-Compound-If x))) ⊎ (((x : Loop) × (d ≡ (the-Compound-Loop x))) ⊎ (((x : For) × (d ≡ (the-Compound-For x))) ⊎ ((x : Case) × (d ≡ (the-Compound-Case x))))))))

pub compound_cases : (d : Compound) → Compound_case d
compound_cases d = at (out-Compound d) (roll-out-Compound d)
  where
    at : (f : Compound-F Command Compound WordWhat AndOr Assigned Branch Case For If Item Joined Loop Pipeline Redirect Script Simple Word WordPiece) → roll-Compound f ≡ d → Compound_case d
    at (Compound-F.Subshell x) e = inl (x, sym e ∙ rolls-Compound-Subshell x)
    at (Compound-F.Group x) e = inr (inl (x, sym e ∙ rolls-Compound-Group x))
    at (Compound-F.If x) e = inr (inr (inl (x, sym e ∙ rolls-Compound-If x)))
    at (Compound-F.Loop x) e = inr (inr (inr (inl (x, sym e ∙ rolls-Compound-Loop x))))
    at (Compound-F.For x) e = inr (inr (inr (inr (inl (x, sym e ∙ rolls-Compound-For x)))))
    at (Compound-F.Case x) e = inr (inr (inr (inr (inr ((x, sym e ∙ rolls-Compound-Case x))))))

pub what_shape_Bytes : (x : List ℕ) → what_shape (the-WordWhat-Bytes x) ≡ variant 0 (bytes x)
unfolding command_shape compound_shape what_shape and_or_shape assigned_shape branch_shape case_shape for_shape if_shape item_shape joined_shape loop_shape pipeline_shape redirect_shape script_shape simple_shape word_shape piece_shape
what_shape_Bytes x = ap what_shape (sym (rolls-WordWhat-Bytes x)) ∙ fold-roll-WordWhat Shape Shape Shape Shape Shape Shape Shape Shape Shape Shape Shape Shape Shape Shape Shape Shape Shape Shape command_shaped compound_shaped what_shaped and_or_shaped assigned_shaped branch_shaped case_shaped for_shaped if_shaped item_shaped joined_shaped loop_shaped pipeline_shaped redirect_shaped script_shaped simple_shaped word_shaped piece_shaped (WordWhat-F.Bytes x)

pub what_shape_Value : (x : Value) → what_shape (the-WordWhat-Value x) ≡ variant 1 (value_shaped x)
unfolding command_shape compound_shape what_shape and_or_shape assigned_shape branch_shape case_shape for_shape if_shape item_shape joined_shape loop_shape pipeline_shape redirect_shape script_shape simple_shape word_shape piece_shape
what_shape_Value x = ap what_shape (sym (rolls-WordWhat-Value x)) ∙ fold-roll-WordWhat Shape Shape Shape Shape Shape Shape Shape Shape Shape Shape Shape Shape Shape Shape Shape Shape Shape Shape command_shaped compound_shaped what_shaped and_or_shaped assigned_shaped branch_shaped case_shaped for_shaped if_shaped item_shaped joined_shaped loop_shaped pipeline_shaped redirect_shaped script_shaped simple_shaped word_shaped piece_shaped (WordWhat-F.Value x)

pub what_shape_Argument : (x : Value) → what_shape (the-WordWhat-Argument x) ≡ variant 2 (value_shaped x)
unfolding command_shape compound_shape what_shape and_or_shape assigned_shape branch_shape case_shape for_shape if_shape item_shape joined_shape loop_shape pipeline_shape redirect_shape script_shape simple_shape word_shape piece_shape
what_shape_Argument x = ap what_shape (sym (rolls-WordWhat-Argument x)) ∙ fold-roll-WordWhat Shape Shape Shape Shape Shape Shape Shape Shape Shape Shape Shape Shape Shape Shape Shape Shape Shape Shape command_shaped compound_shaped what_shaped and_or_shaped assigned_shaped branch_shaped case_shaped for_shaped if_shaped item_shaped joined_shaped loop_shaped pipeline_shaped redirect_shaped script_shaped simple_shaped word_shaped piece_shaped (WordWhat-F.Argument x)

pub what_shape_End : what_shape the-WordWhat-End ≡ variant 3 (nothing)
unfolding command_shape compound_shape what_shape and_or_shape assigned_shape branch_shape case_shape for_shape if_shape item_shape joined_shape loop_shape pipeline_shape redirect_shape script_shape simple_shape word_shape piece_shape
what_shape_End = ap what_shape (sym (rolls-WordWhat-End)) ∙ fold-roll-WordWhat Shape Shape Shape Shape Shape Shape Shape Shape Shape Shape Shape Shape Shape Shape Shape Shape Shape Shape command_shaped compound_shaped what_shaped and_or_shaped assigned_shaped branch_shaped case_shaped for_shaped if_shaped item_shaped joined_shaped loop_shaped pipeline_shaped redirect_shaped script_shaped simple_shaped word_shaped piece_shaped (WordWhat-F.End)

pub what_shape_Output : (x : Script) → what_shape (the-WordWhat-Output x) ≡ variant 4 (script_shape x)
unfolding command_shape compound_shape what_shape and_or_shape assigned_shape branch_shape case_shape for_shape if_shape item_shape joined_shape loop_shape pipeline_shape redirect_shape script_shape simple_shape word_shape piece_shape
what_shape_Output x = ap what_shape (sym (rolls-WordWhat-Output x)) ∙ fold-roll-WordWhat Shape Shape Shape Shape Shape Shape Shape Shape Shape Shape Shape Shape Shape Shape Shape Shape Shape Shape command_shaped compound_shaped what_shaped and_or_shaped assigned_shaped branch_shaped case_shaped for_shaped if_shaped item_shaped joined_shaped loop_shaped pipeline_shaped redirect_shaped script_shaped simple_shaped word_shaped piece_shaped (WordWhat-F.Output x)

abbrev pub WordWhat_case : WordWhat → Type 0
WordWhat_case d = (((x : List ℕ) × (d ≡ (the-WordWhat-Bytes x))) ⊎ (((x : Value) × (d ≡ (the-WordWhat-Value x))) ⊎ (((x : Value) × (d ≡ (the-WordWhat-Argument x))) ⊎ (((d ≡ the-WordWhat-End)) ⊎ ((x : Script) × (d ≡ (the-WordWhat-Output x)))))))

pub what_cases : (d : WordWhat) → WordWhat_case d
what_cases d = at (out-WordWhat d) (roll-out-WordWhat d)
  where
    at : (f : WordWhat-F Command Compound WordWhat AndOr Assigned Branch Case For If Item Joined Loop Pipeline Redirect Script Simple Word WordPiece) → roll-WordWhat f ≡ d → WordWhat_case d
    at (WordWhat-F.Bytes x) e = inl (x, sym e ∙ rolls-WordWhat-Bytes x)
    at (WordWhat-F.Value x) e = inr (inl (x, sym e ∙ rolls-WordWhat-Value x))
    at (WordWhat-F.Argument x) e = inr (inr (inl (x, sym e ∙ rolls-WordWhat-Argument x)))
    at WordWhat-F.End e = inr (inr (inr (inl (sym e ∙ rolls-WordWhat-End))))
    at (WordWhat-F.Output x) e = inr (inr (inr (inr ((x, sym e ∙ rolls-WordWhat-Output x)))))
