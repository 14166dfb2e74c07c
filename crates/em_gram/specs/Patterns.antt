-- How each tree is spelled by lexemes: a fold, with a step for each part of the grammar. Words are
-- spelled with the bytes and names that they hold.
use Rattle.std.specs.Prelude.{ℕ, zero, ◌-◌, ◌==◌, nat_le, Bool, true, false, List, [], ◌∷◌, ◌++◌, map, Option, Some, None, option_map, cond}
use Rattle.em_grammar.specs.Production.{empty, one, this, ◌⨾◌, ◌∣◌, last, refused}
use Rattle.em_grammar.specs.Gives.{all, parted}
use Rattle.em_lexeme.specs.declared.lexeme.What.{What}
use Rattle.em_token.specs.Kinds.{kinds, words, words_but_esac, command_words, reserved_words}
use Rattle.em_token.specs.Words.{name_spelled}
use Rattle.em_token.specs.Shell.{Expr, key, newlines, sequential, bare, reserved, item_end}
use Rattle.em_token.specs.declared.kind.Kind.TheVariants.{Assignment, Bang, If, Then, Elif, Else, Fi, While, Until, Do, Done, For, In, Case, Esac, LeftBrace, RightBrace, WordEnd, Bytes, Assigning, Value, ArgumentStart, ArgumentEnd, SubstitutionStart, SubstitutionEnd, AndIf, OrIf, Pipe, LeftParen, RightParen, Number, Less, Great, DoubleGreat, GreatAnd}
use Rattle.em_syntax.specs.declared.tree.RedirectKind.{RedirectKind}
use Rattle.em_syntax.specs.declared.tree.Command.TheOpen.{Command-F, Compound-F, WordWhat-F, AndOr-F, Assigned-F, Branch-F, Case-F, For-F, If-F, Item-F, Joined-F, Loop-F, Pipeline-F, Redirect-F, Script-F, Simple-F, Word-F, WordPiece-F}
use Rattle.em_syntax.specs.declared.tree.Command.{Command as CommandTree, fold-Command}
use Rattle.em_syntax.specs.declared.tree.Compound.{Compound as CompoundTree, fold-Compound}
use Rattle.em_syntax.specs.declared.tree.WordWhat.{WordWhat as WordWhatTree, fold-WordWhat}
use Rattle.em_syntax.specs.declared.tree.AndOr.{AndOr as AndOrTree, fold-AndOr}
use Rattle.em_syntax.specs.declared.tree.Assigned.{Assigned as AssignedTree, fold-Assigned}
use Rattle.em_syntax.specs.declared.tree.Branch.{Branch as BranchTree, fold-Branch}
use Rattle.em_syntax.specs.declared.tree.Case.{Case as CaseTree, fold-Case}
use Rattle.em_syntax.specs.declared.tree.For.{For as ForTree, fold-For}
use Rattle.em_syntax.specs.declared.tree.If.{If as IfTree, fold-If}
use Rattle.em_syntax.specs.declared.tree.Item.{Item as ItemTree, fold-Item}
use Rattle.em_syntax.specs.declared.tree.Joined.{Joined as JoinedTree, fold-Joined}
use Rattle.em_syntax.specs.declared.tree.Loop.{Loop as LoopTree, fold-Loop}
use Rattle.em_syntax.specs.declared.tree.Pipeline.{Pipeline as PipelineTree, fold-Pipeline}
use Rattle.em_syntax.specs.declared.tree.Redirect.{Redirect as RedirectTree, fold-Redirect}
use Rattle.em_syntax.specs.declared.tree.Script.{Script as ScriptTree, fold-Script}
use Rattle.em_syntax.specs.declared.tree.Simple.{Simple as SimpleTree, fold-Simple}
use Rattle.em_syntax.specs.Nesting.{Nesting, Stays, Opens, Closes, open_after}
use Rattle.em_syntax.specs.declared.tree.Word.{Word as WordTree, fold-Word}
use Rattle.em_syntax.specs.declared.tree.WordPiece.{WordPiece as WordPieceTree, fold-WordPiece}

-- no tokens spell it
abbrev pub never : Expr
never = refused [] 0

-- Words
-- what spells a word, up to its end; and the digit that it is, where it is one unquoted digit
pub record Spelling : Type 0 where
  pub pattern : Expr
  pub digit : Option ℕ

-- the same of a piece, and how it nests
pub record PieceSpelling : Type 0 where
  pub pattern : Expr
  pub digit : Option ℕ
  pub nesting : Nesting

abbrev pub digit_of : Bool → List ℕ → Option ℕ
digit_of false (d ∷ []) = cond (nat_le 48 d) (Some (d - 48)) None
digit_of _ _ = None

abbrev pub only_digit : List PieceSpelling → Option ℕ
only_digit (p ∷ []) = p.digit
only_digit _ = None

-- a word in which an `End` belongs to no `Argument`, or an argument is left open, is spelled by
-- nothing
abbrev pub if_closed : Option ℕ → Expr → Expr
if_closed (Some zero) spelled = spelled
if_closed _ spelled = never

-- the pieces one after another
abbrev pub of_pieces : List PieceSpelling → Spelling
of_pieces ps = record { pattern = if_closed (open_after 0 (map (λ p. p.nesting) ps)) (all (map (λ p. p.pattern) ps)); digit = only_digit ps }

abbrev pub bytes_spelling : List ℕ → Bool → PieceSpelling
bytes_spelling text quoted = record { pattern = this (kinds (Bytes ∷ Assigning ∷ [])) (What.Bytes quoted text); digit = digit_of quoted text; nesting = Stays }

-- a list, or none; a list
abbrev pub body_of : Option Expr → Expr
body_of None = empty
body_of (Some a) = a

abbrev pub some_list : Option Expr → Expr
some_list None = never
some_list (Some a) = a

abbrev pub output_spelling : Option Expr → Bool → PieceSpelling
output_spelling a quoted = record { pattern = this (kinds (SubstitutionStart ∷ [])) (What.SubstitutionStart quoted) ⨾ newlines ⨾ body_of a ⨾ key SubstitutionEnd; digit = None; nesting = Stays }

abbrev pub value_spelling : List ℕ → List ℕ → Bool → PieceSpelling
value_spelling name form quoted = record { pattern = this (kinds (Value ∷ [])) (What.Value quoted name form); digit = None; nesting = Stays }

abbrev pub argument_spelling : List ℕ → List ℕ → Bool → PieceSpelling
argument_spelling name form quoted = record { pattern = this (kinds (ArgumentStart ∷ [])) (What.ArgumentStart quoted name form); digit = None; nesting = Opens }

-- no end is quoted
abbrev pub end_spelling : Bool → PieceSpelling
end_spelling quoted = record { pattern = cond quoted never (key ArgumentEnd); digit = None; nesting = Closes }

-- a whole word, which begins with one of these
abbrev pub word_spelled : List ℕ → Spelling → Expr
word_spelled begins w = one begins ⨾ w.pattern ⨾ key WordEnd

abbrev pub any_word : Spelling → Expr
any_word w = word_spelled words w

abbrev pub assigned_spelled : List ℕ → Spelling → Expr
assigned_spelled name value = key Assignment ⨾ this (kinds (Assigning ∷ [])) (What.Bytes false (name ++ 61 ∷ [])) ⨾ value.pattern ⨾ key WordEnd

-- Redirections
-- the number in front, which may be left out where it is this one
abbrev pub number_spelled : ℕ → ℕ → Expr
number_spelled usual fd = this (kinds (Number ∷ [])) (What.Number fd) ∣ cond (fd == usual) empty never

abbrev pub number_of : Option ℕ → Expr
number_of None = empty
number_of (Some fd) = this (kinds (Number ∷ [])) (What.Number fd)

abbrev pub digit_spelled : Option ℕ → Expr
digit_spelled None = never
digit_spelled (Some n) = this (kinds (Number ∷ [])) (What.Number n)

abbrev pub operator_spelled : RedirectKind → Expr
operator_spelled RedirectKind.Write = key Great
operator_spelled RedirectKind.Append = key DoubleGreat
operator_spelled RedirectKind.Read = key Less
operator_spelled RedirectKind.Duplicate = key GreatAnd

abbrev pub is_duplicate : RedirectKind → Bool
is_duplicate RedirectKind.Duplicate = true
is_duplicate _ = false

abbrev pub target_spelled : RedirectKind → Spelling → Expr
target_spelled kind target = operator_spelled kind ⨾ cond (is_duplicate kind) (digit_spelled target.digit) (any_word target)

abbrev pub usual : RedirectKind → ℕ
usual RedirectKind.Write = 1
usual RedirectKind.Append = 1
usual RedirectKind.Read = 0
usual RedirectKind.Duplicate = 1

abbrev pub redirect_spelled : RedirectKind → ℕ → Spelling → Expr
redirect_spelled kind fd target = number_spelled (usual kind) fd ⨾ target_spelled kind target

-- Simple commands
-- in any interleaving, each in its order
abbrev pub weave : Expr → (List Expr → Expr) → List Expr → Expr
weave w others [] = w ⨾ others []
weave w others (r ∷ rs) = (w ⨾ others (r ∷ rs)) ∣ (r ⨾ weave w others rs)

abbrev pub mixed : List Expr → List Expr → Expr
mixed [] rs = all rs
mixed (w ∷ ws) rs = weave w (mixed ws) rs

-- the first word of a command is no assignment
abbrev pub words_spelled : List Spelling → List Expr
words_spelled [] = []
words_spelled (w ∷ ws) = word_spelled command_words w ∷ map any_word ws

abbrev pub some_parts : List Expr → List Expr → Expr
some_parts [] [] = never
some_parts ws rs = mixed ws rs

-- at least one part; the first is no reserved word, and all words up to the next lexeme that is
-- none belong to it
abbrev pub simple_spelled : List Expr → List Spelling → List Expr → Expr
simple_spelled assigned ws rs = last reserved_words ⨾ some_parts (assigned ++ words_spelled ws) rs ⨾ last words

-- Lists
-- a row of items with a separator between two and perhaps at the end
abbrev pub row : Expr → List Expr → Expr
row sep ps = parted sep ps ⨾ (sep ∣ empty)

-- what a script is spelled as, if it has commands
abbrev pub list_of : List Expr → Option Expr
list_of [] = None
list_of (a ∷ as') = Some (row sequential (a ∷ as'))

abbrev pub block_of : Expr → Expr
block_of a = newlines ⨾ a

abbrev pub do_of : Expr → Expr
do_of a = reserved Do ⨾ block_of a ⨾ reserved Done

abbrev pub staged : List Expr → Expr
staged cs = parted (key Pipe ⨾ newlines) cs

abbrev pub else_of : Option Expr → Expr
else_of None = empty
else_of (Some a) = reserved Else ⨾ block_of a

abbrev pub branches_of : List Expr → Expr
branches_of bs = parted (reserved Elif) bs

abbrev pub pattern_behind : Spelling → Expr
pattern_behind p = (key Pipe ⨾ newlines) ⨾ any_word p

abbrev pub first_pattern_of : Spelling → Expr
first_pattern_of p = key LeftParen ⨾ any_word p ∣ word_spelled words_but_esac p

abbrev pub patterns_of : List Spelling → Expr
patterns_of [] = never
patterns_of (p ∷ ps) = first_pattern_of p ⨾ all (map pattern_behind ps)

abbrev pub items_of : List Expr → Expr
items_of [] = empty
items_of (i ∷ is) = row item_end (i ∷ is)

-- The steps
abbrev pub command_step : Command-F Expr Expr (Bool → PieceSpelling) Expr Expr Expr Expr Expr Expr Expr Expr Expr Expr Expr (Option Expr) Expr Spelling PieceSpelling → Expr
command_step (Command-F.Simple s) = s
command_step (Command-F.Compound c rs) = c ⨾ all rs.items

abbrev pub compound_step : Compound-F Expr Expr (Bool → PieceSpelling) Expr Expr Expr Expr Expr Expr Expr Expr Expr Expr Expr (Option Expr) Expr Spelling PieceSpelling → Expr
compound_step (Compound-F.Subshell a) = key LeftParen ⨾ block_of (some_list a) ⨾ key RightParen
compound_step (Compound-F.Group a) = key LeftBrace ⨾ bare ⨾ block_of (some_list a) ⨾ reserved RightBrace
compound_step (Compound-F.If a) = a
compound_step (Compound-F.Loop a) = a
compound_step (Compound-F.For a) = a
compound_step (Compound-F.Case a) = a

abbrev pub what_step : WordWhat-F Expr Expr (Bool → PieceSpelling) Expr Expr Expr Expr Expr Expr Expr Expr Expr Expr Expr (Option Expr) Expr Spelling PieceSpelling → Bool → PieceSpelling
what_step (WordWhat-F.Bytes text) = bytes_spelling text
what_step (WordWhat-F.Value v) = value_spelling v.name v.form
what_step (WordWhat-F.Argument v) = argument_spelling v.name v.form
what_step WordWhat-F.End = end_spelling
what_step (WordWhat-F.Output a) = output_spelling a

abbrev pub and_or_step : AndOr-F Expr Expr (Bool → PieceSpelling) Expr Expr Expr Expr Expr Expr Expr Expr Expr Expr Expr (Option Expr) Expr Spelling PieceSpelling → Expr
and_or_step a = a.first ⨾ all a.rest.items

abbrev pub assigned_step : Assigned-F Expr Expr (Bool → PieceSpelling) Expr Expr Expr Expr Expr Expr Expr Expr Expr Expr Expr (Option Expr) Expr Spelling PieceSpelling → Expr
assigned_step a = assigned_spelled a.name a.value

abbrev pub branch_step : Branch-F Expr Expr (Bool → PieceSpelling) Expr Expr Expr Expr Expr Expr Expr Expr Expr Expr Expr (Option Expr) Expr Spelling PieceSpelling → Expr
branch_step b = block_of (some_list b.test) ⨾ reserved Then ⨾ block_of (some_list b.body)

abbrev pub case_step : Case-F Expr Expr (Bool → PieceSpelling) Expr Expr Expr Expr Expr Expr Expr Expr Expr Expr Expr (Option Expr) Expr Spelling PieceSpelling → Expr
case_step c = key Case ⨾ bare ⨾ any_word c.word ⨾ reserved In ⨾ newlines ⨾ items_of c.items.items ⨾ reserved Esac

abbrev pub for_step : For-F Expr Expr (Bool → PieceSpelling) Expr Expr Expr Expr Expr Expr Expr Expr Expr Expr Expr (Option Expr) Expr Spelling PieceSpelling → Expr
for_step f = key For ⨾ bare ⨾ name_spelled f.name ⨾ reserved In ⨾ all (map any_word f.words.items) ⨾ sequential ⨾ do_of (some_list f.body)

abbrev pub if_step : If-F Expr Expr (Bool → PieceSpelling) Expr Expr Expr Expr Expr Expr Expr Expr Expr Expr Expr (Option Expr) Expr Spelling PieceSpelling → Expr
if_step i = key If ⨾ bare ⨾ branches_of i.branches.items ⨾ else_of (option_map some_list i.other) ⨾ reserved Fi

abbrev pub item_step : Item-F Expr Expr (Bool → PieceSpelling) Expr Expr Expr Expr Expr Expr Expr Expr Expr Expr Expr (Option Expr) Expr Spelling PieceSpelling → Expr
item_step i = patterns_of i.patterns.items ⨾ key RightParen ⨾ newlines ⨾ body_of (option_map some_list i.body)

abbrev pub joined_step : Joined-F Expr Expr (Bool → PieceSpelling) Expr Expr Expr Expr Expr Expr Expr Expr Expr Expr Expr (Option Expr) Expr Spelling PieceSpelling → Expr
joined_step j = key (cond j.and AndIf OrIf) ⨾ newlines ⨾ j.next

abbrev pub loop_step : Loop-F Expr Expr (Bool → PieceSpelling) Expr Expr Expr Expr Expr Expr Expr Expr Expr Expr Expr (Option Expr) Expr Spelling PieceSpelling → Expr
loop_step l = key (cond l.until Until While) ⨾ bare ⨾ block_of (some_list l.test) ⨾ do_of (some_list l.body)

abbrev pub pipeline_step : Pipeline-F Expr Expr (Bool → PieceSpelling) Expr Expr Expr Expr Expr Expr Expr Expr Expr Expr Expr (Option Expr) Expr Spelling PieceSpelling → Expr
pipeline_step p = cond p.not (reserved Bang) empty ⨾ staged p.stages.items

abbrev pub redirect_step : Redirect-F Expr Expr (Bool → PieceSpelling) Expr Expr Expr Expr Expr Expr Expr Expr Expr Expr Expr (Option Expr) Expr Spelling PieceSpelling → Expr
redirect_step r = redirect_spelled r.kind r.fd r.target

abbrev pub script_step : Script-F Expr Expr (Bool → PieceSpelling) Expr Expr Expr Expr Expr Expr Expr Expr Expr Expr Expr (Option Expr) Expr Spelling PieceSpelling → Option Expr
script_step s = list_of s.list.items

abbrev pub simple_step : Simple-F Expr Expr (Bool → PieceSpelling) Expr Expr Expr Expr Expr Expr Expr Expr Expr Expr Expr (Option Expr) Expr Spelling PieceSpelling → Expr
simple_step s = simple_spelled s.assigned.items s.words.items s.redirects.items

abbrev pub word_step : Word-F Expr Expr (Bool → PieceSpelling) Expr Expr Expr Expr Expr Expr Expr Expr Expr Expr Expr (Option Expr) Expr Spelling PieceSpelling → Spelling
word_step w = of_pieces w.pieces.items

abbrev pub piece_step : WordPiece-F Expr Expr (Bool → PieceSpelling) Expr Expr Expr Expr Expr Expr Expr Expr Expr Expr Expr (Option Expr) Expr Spelling PieceSpelling → PieceSpelling
piece_step p = p.what p.quoted

-- FOLDS: written by tools/spellings.py
unfoldable pub command_pattern : CommandTree → Expr
command_pattern = fold-Command Expr Expr (Bool → PieceSpelling) Expr Expr Expr Expr Expr Expr Expr Expr Expr Expr Expr (Option Expr) Expr Spelling PieceSpelling command_step compound_step what_step and_or_step assigned_step branch_step case_step for_step if_step item_step joined_step loop_step pipeline_step redirect_step script_step simple_step word_step piece_step

unfoldable pub compound_pattern : CompoundTree → Expr
compound_pattern = fold-Compound Expr Expr (Bool → PieceSpelling) Expr Expr Expr Expr Expr Expr Expr Expr Expr Expr Expr (Option Expr) Expr Spelling PieceSpelling command_step compound_step what_step and_or_step assigned_step branch_step case_step for_step if_step item_step joined_step loop_step pipeline_step redirect_step script_step simple_step word_step piece_step

unfoldable pub what_spelled_as : WordWhatTree → Bool → PieceSpelling
what_spelled_as = fold-WordWhat Expr Expr (Bool → PieceSpelling) Expr Expr Expr Expr Expr Expr Expr Expr Expr Expr Expr (Option Expr) Expr Spelling PieceSpelling command_step compound_step what_step and_or_step assigned_step branch_step case_step for_step if_step item_step joined_step loop_step pipeline_step redirect_step script_step simple_step word_step piece_step

unfoldable pub and_or_pattern : AndOrTree → Expr
and_or_pattern = fold-AndOr Expr Expr (Bool → PieceSpelling) Expr Expr Expr Expr Expr Expr Expr Expr Expr Expr Expr (Option Expr) Expr Spelling PieceSpelling command_step compound_step what_step and_or_step assigned_step branch_step case_step for_step if_step item_step joined_step loop_step pipeline_step redirect_step script_step simple_step word_step piece_step

unfoldable pub assigned_pattern : AssignedTree → Expr
assigned_pattern = fold-Assigned Expr Expr (Bool → PieceSpelling) Expr Expr Expr Expr Expr Expr Expr Expr Expr Expr Expr (Option Expr) Expr Spelling PieceSpelling command_step compound_step what_step and_or_step assigned_step branch_step case_step for_step if_step item_step joined_step loop_step pipeline_step redirect_step script_step simple_step word_step piece_step

unfoldable pub branch_pattern : BranchTree → Expr
branch_pattern = fold-Branch Expr Expr (Bool → PieceSpelling) Expr Expr Expr Expr Expr Expr Expr Expr Expr Expr Expr (Option Expr) Expr Spelling PieceSpelling command_step compound_step what_step and_or_step assigned_step branch_step case_step for_step if_step item_step joined_step loop_step pipeline_step redirect_step script_step simple_step word_step piece_step

unfoldable pub case_pattern : CaseTree → Expr
case_pattern = fold-Case Expr Expr (Bool → PieceSpelling) Expr Expr Expr Expr Expr Expr Expr Expr Expr Expr Expr (Option Expr) Expr Spelling PieceSpelling command_step compound_step what_step and_or_step assigned_step branch_step case_step for_step if_step item_step joined_step loop_step pipeline_step redirect_step script_step simple_step word_step piece_step

unfoldable pub for_pattern : ForTree → Expr
for_pattern = fold-For Expr Expr (Bool → PieceSpelling) Expr Expr Expr Expr Expr Expr Expr Expr Expr Expr Expr (Option Expr) Expr Spelling PieceSpelling command_step compound_step what_step and_or_step assigned_step branch_step case_step for_step if_step item_step joined_step loop_step pipeline_step redirect_step script_step simple_step word_step piece_step

unfoldable pub if_pattern : IfTree → Expr
if_pattern = fold-If Expr Expr (Bool → PieceSpelling) Expr Expr Expr Expr Expr Expr Expr Expr Expr Expr Expr (Option Expr) Expr Spelling PieceSpelling command_step compound_step what_step and_or_step assigned_step branch_step case_step for_step if_step item_step joined_step loop_step pipeline_step redirect_step script_step simple_step word_step piece_step

unfoldable pub item_pattern : ItemTree → Expr
item_pattern = fold-Item Expr Expr (Bool → PieceSpelling) Expr Expr Expr Expr Expr Expr Expr Expr Expr Expr Expr (Option Expr) Expr Spelling PieceSpelling command_step compound_step what_step and_or_step assigned_step branch_step case_step for_step if_step item_step joined_step loop_step pipeline_step redirect_step script_step simple_step word_step piece_step

unfoldable pub joined_pattern : JoinedTree → Expr
joined_pattern = fold-Joined Expr Expr (Bool → PieceSpelling) Expr Expr Expr Expr Expr Expr Expr Expr Expr Expr Expr (Option Expr) Expr Spelling PieceSpelling command_step compound_step what_step and_or_step assigned_step branch_step case_step for_step if_step item_step joined_step loop_step pipeline_step redirect_step script_step simple_step word_step piece_step

unfoldable pub loop_pattern : LoopTree → Expr
loop_pattern = fold-Loop Expr Expr (Bool → PieceSpelling) Expr Expr Expr Expr Expr Expr Expr Expr Expr Expr Expr (Option Expr) Expr Spelling PieceSpelling command_step compound_step what_step and_or_step assigned_step branch_step case_step for_step if_step item_step joined_step loop_step pipeline_step redirect_step script_step simple_step word_step piece_step

unfoldable pub pipeline_pattern : PipelineTree → Expr
pipeline_pattern = fold-Pipeline Expr Expr (Bool → PieceSpelling) Expr Expr Expr Expr Expr Expr Expr Expr Expr Expr Expr (Option Expr) Expr Spelling PieceSpelling command_step compound_step what_step and_or_step assigned_step branch_step case_step for_step if_step item_step joined_step loop_step pipeline_step redirect_step script_step simple_step word_step piece_step

unfoldable pub redirect_pattern : RedirectTree → Expr
redirect_pattern = fold-Redirect Expr Expr (Bool → PieceSpelling) Expr Expr Expr Expr Expr Expr Expr Expr Expr Expr Expr (Option Expr) Expr Spelling PieceSpelling command_step compound_step what_step and_or_step assigned_step branch_step case_step for_step if_step item_step joined_step loop_step pipeline_step redirect_step script_step simple_step word_step piece_step

unfoldable pub script_listing : ScriptTree → Option Expr
script_listing = fold-Script Expr Expr (Bool → PieceSpelling) Expr Expr Expr Expr Expr Expr Expr Expr Expr Expr Expr (Option Expr) Expr Spelling PieceSpelling command_step compound_step what_step and_or_step assigned_step branch_step case_step for_step if_step item_step joined_step loop_step pipeline_step redirect_step script_step simple_step word_step piece_step

unfoldable pub simple_pattern : SimpleTree → Expr
simple_pattern = fold-Simple Expr Expr (Bool → PieceSpelling) Expr Expr Expr Expr Expr Expr Expr Expr Expr Expr Expr (Option Expr) Expr Spelling PieceSpelling command_step compound_step what_step and_or_step assigned_step branch_step case_step for_step if_step item_step joined_step loop_step pipeline_step redirect_step script_step simple_step word_step piece_step

unfoldable pub word_spelling : WordTree → Spelling
word_spelling = fold-Word Expr Expr (Bool → PieceSpelling) Expr Expr Expr Expr Expr Expr Expr Expr Expr Expr Expr (Option Expr) Expr Spelling PieceSpelling command_step compound_step what_step and_or_step assigned_step branch_step case_step for_step if_step item_step joined_step loop_step pipeline_step redirect_step script_step simple_step word_step piece_step

unfoldable pub piece_spelling : WordPieceTree → PieceSpelling
piece_spelling = fold-WordPiece Expr Expr (Bool → PieceSpelling) Expr Expr Expr Expr Expr Expr Expr Expr Expr Expr Expr (Option Expr) Expr Spelling PieceSpelling command_step compound_step what_step and_or_step assigned_step branch_step case_step for_step if_step item_step joined_step loop_step pipeline_step redirect_step script_step simple_step word_step piece_step

-- a script that has commands; one that may have none
abbrev pub script_pattern : ScriptTree → Expr
script_pattern s = some_list (script_listing s)

abbrev pub body_pattern : ScriptTree → Expr
body_pattern s = body_of (script_listing s)
