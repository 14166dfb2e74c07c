-- How each tree is spelled, in terms of its parts. Written by tools/spellings.py.
use Rattle.std.proofs.Common.{◌≡◌, ℕ, List, Bool, map, refl, ap, sym, ◌∙◌, cond, Option, Some, None}
use Rattle.std.specs.Option.{option_map}
use Rattle.std.specs.declared.vec.Vec.{Vec}
use Rattle.em_grammar.specs.Production.{empty, ◌⨾◌}
use Rattle.em_grammar.specs.Gives.{all}
use Rattle.em_token.specs.Shell.{Expr, key, newlines, sequential, bare, reserved}
use Rattle.em_token.specs.declared.kind.Kind.TheVariants.{Bang, If as If_, Then, Fi, Until, While, For as For_, In, Case as Case_, Esac, LeftBrace, RightBrace, LeftParen, RightParen, AndIf, OrIf}
use Rattle.em_syntax.specs.declared.tree.RedirectKind.{RedirectKind}
use Rattle.em_gram.specs.Patterns.{script_pattern, Spelling, PieceSpelling, of_pieces, bytes_spelling, output_spelling, value_spelling, argument_spelling, end_spelling, any_word, assigned_spelled, redirect_spelled, simple_spelled, some_list, list_of, block_of, do_of, staged, else_of, branches_of, body_of, patterns_of, items_of}
use Rattle.em_token.specs.Words.{name_spelled}
use Rattle.em_gram.specs.Patterns.{command_step, compound_step, what_step, and_or_step, assigned_step, branch_step, case_step, for_step, if_step, item_step, joined_step, loop_step, pipeline_step, redirect_step, script_step, simple_step, word_step, piece_step}
use Rattle.em_gram.specs.Patterns.{command_pattern, compound_pattern, what_spelled_as, and_or_pattern, assigned_pattern, branch_pattern, case_pattern, for_pattern, if_pattern, item_pattern, joined_pattern, loop_pattern, pipeline_pattern, redirect_pattern, script_listing, simple_pattern, word_spelling, piece_spelling}
use Rattle.em_syntax.specs.declared.tree.Command.TheOpen.{Command-F, Compound-F, WordWhat-F}
use Rattle.em_syntax.specs.declared.tree.Command.TheShapes.{former-If-other}
use Rattle.em_syntax.specs.declared.tree.Command.{Command, fold-roll-Command}
use Rattle.em_syntax.specs.declared.tree.Command.TheVariants.{Simple as the-Simple, Compound as the-Compound, rolls-Simple, rolls-Compound}
use Rattle.em_syntax.specs.declared.tree.Compound.{Compound, fold-roll-Compound}
use Rattle.em_syntax.specs.declared.tree.Compound.TheVariants.{Subshell as the-Subshell, Group as the-Group, If as the-If, Loop as the-Loop, For as the-For, Case as the-Case, rolls-Subshell, rolls-Group, rolls-If, rolls-Loop, rolls-For, rolls-Case}
use Rattle.em_syntax.specs.declared.tree.WordWhat.{WordWhat, fold-roll-WordWhat}
use Rattle.em_syntax.specs.declared.tree.WordWhat.TheVariants.{Bytes as the-Bytes, Value as the-Value, Argument as the-Argument, End as the-End, Output as the-Output, rolls-Bytes, rolls-Value, rolls-Argument, rolls-End, rolls-Output}
use Rattle.em_syntax.specs.declared.tree.Value.{Value}
use Rattle.em_syntax.specs.declared.tree.Script.{Script, roll-Script, fold-roll-Script, out-Script, fold_out-Script}
use Rattle.em_syntax.specs.declared.tree.AndOr.{AndOr, roll-AndOr, fold-roll-AndOr, out-AndOr, fold_out-AndOr}
use Rattle.em_syntax.specs.declared.tree.Joined.{Joined, roll-Joined, fold-roll-Joined, out-Joined, fold_out-Joined}
use Rattle.em_syntax.specs.declared.tree.Pipeline.{Pipeline, roll-Pipeline, fold-roll-Pipeline, out-Pipeline, fold_out-Pipeline}
use Rattle.em_syntax.specs.declared.tree.Simple.{Simple, roll-Simple, fold-roll-Simple, out-Simple, fold_out-Simple}
use Rattle.em_syntax.specs.declared.tree.Assigned.{Assigned, roll-Assigned, fold-roll-Assigned, out-Assigned, fold_out-Assigned}
use Rattle.em_syntax.specs.declared.tree.Redirect.{Redirect, roll-Redirect, fold-roll-Redirect, out-Redirect, fold_out-Redirect}
use Rattle.em_syntax.specs.declared.tree.If.{If, roll-If, fold-roll-If, out-If, fold_out-If}
use Rattle.em_syntax.specs.declared.tree.Branch.{Branch, roll-Branch, fold-roll-Branch, out-Branch, fold_out-Branch}
use Rattle.em_syntax.specs.declared.tree.Loop.{Loop, roll-Loop, fold-roll-Loop, out-Loop, fold_out-Loop}
use Rattle.em_syntax.specs.declared.tree.For.{For, roll-For, fold-roll-For, out-For, fold_out-For}
use Rattle.em_syntax.specs.declared.tree.Case.{Case, roll-Case, fold-roll-Case, out-Case, fold_out-Case}
use Rattle.em_syntax.specs.declared.tree.Item.{Item, roll-Item, fold-roll-Item, out-Item, fold_out-Item}
use Rattle.em_syntax.specs.declared.tree.Word.{Word, roll-Word, fold-roll-Word, out-Word, fold_out-Word}
use Rattle.em_syntax.specs.declared.tree.WordPiece.{WordPiece, roll-WordPiece, fold-roll-WordPiece, out-WordPiece, fold_out-WordPiece}

script_option : (o : Option Script) → option_map some_list ((former-If-other).map Script (Option Expr) script_listing o) ≡ option_map script_pattern o
script_option None = refl
script_option (Some x) = refl

pub script_made : (list_ : Vec AndOr _) → script_listing (roll-Script (record { list = list_ })) ≡ (list_of (map and_or_pattern list_.items))
unfolding command_pattern compound_pattern what_spelled_as and_or_pattern assigned_pattern branch_pattern case_pattern for_pattern if_pattern item_pattern joined_pattern loop_pattern pipeline_pattern redirect_pattern script_listing simple_pattern word_spelling piece_spelling
script_made list_ = fold-roll-Script Expr Expr (Bool → PieceSpelling) Expr Expr Expr Expr Expr Expr Expr Expr Expr Expr Expr (Option Expr) Expr Spelling PieceSpelling command_step compound_step what_step and_or_step assigned_step branch_step case_step for_step if_step item_step joined_step loop_step pipeline_step redirect_step script_step simple_step word_step piece_step (record { list = list_ })

pub script_is : (d : Script) → script_listing d ≡ (list_of (map and_or_pattern (out-Script d).list.items))
unfolding command_pattern compound_pattern what_spelled_as and_or_pattern assigned_pattern branch_pattern case_pattern for_pattern if_pattern item_pattern joined_pattern loop_pattern pipeline_pattern redirect_pattern script_listing simple_pattern word_spelling piece_spelling
script_is d = fold_out-Script Expr Expr (Bool → PieceSpelling) Expr Expr Expr Expr Expr Expr Expr Expr Expr Expr Expr (Option Expr) Expr Spelling PieceSpelling command_step compound_step what_step and_or_step assigned_step branch_step case_step for_step if_step item_step joined_step loop_step pipeline_step redirect_step script_step simple_step word_step piece_step d

pub and_or_made : (first : Pipeline) (rest_ : Vec Joined _) → and_or_pattern (roll-AndOr (record { first = first; rest = rest_ })) ≡ (pipeline_pattern first ⨾ all (map joined_pattern rest_.items))
unfolding command_pattern compound_pattern what_spelled_as and_or_pattern assigned_pattern branch_pattern case_pattern for_pattern if_pattern item_pattern joined_pattern loop_pattern pipeline_pattern redirect_pattern script_listing simple_pattern word_spelling piece_spelling
and_or_made first rest_ = fold-roll-AndOr Expr Expr (Bool → PieceSpelling) Expr Expr Expr Expr Expr Expr Expr Expr Expr Expr Expr (Option Expr) Expr Spelling PieceSpelling command_step compound_step what_step and_or_step assigned_step branch_step case_step for_step if_step item_step joined_step loop_step pipeline_step redirect_step script_step simple_step word_step piece_step (record { first = first; rest = rest_ })

pub and_or_is : (d : AndOr) → and_or_pattern d ≡ (pipeline_pattern (out-AndOr d).first ⨾ all (map joined_pattern (out-AndOr d).rest.items))
unfolding command_pattern compound_pattern what_spelled_as and_or_pattern assigned_pattern branch_pattern case_pattern for_pattern if_pattern item_pattern joined_pattern loop_pattern pipeline_pattern redirect_pattern script_listing simple_pattern word_spelling piece_spelling
and_or_is d = fold_out-AndOr Expr Expr (Bool → PieceSpelling) Expr Expr Expr Expr Expr Expr Expr Expr Expr Expr Expr (Option Expr) Expr Spelling PieceSpelling command_step compound_step what_step and_or_step assigned_step branch_step case_step for_step if_step item_step joined_step loop_step pipeline_step redirect_step script_step simple_step word_step piece_step d

pub joined_made : (and_ : Bool) (next : Pipeline) → joined_pattern (roll-Joined (record { and = and_; next = next })) ≡ (key (cond and_ AndIf OrIf) ⨾ newlines ⨾ pipeline_pattern next)
unfolding command_pattern compound_pattern what_spelled_as and_or_pattern assigned_pattern branch_pattern case_pattern for_pattern if_pattern item_pattern joined_pattern loop_pattern pipeline_pattern redirect_pattern script_listing simple_pattern word_spelling piece_spelling
joined_made and_ next = fold-roll-Joined Expr Expr (Bool → PieceSpelling) Expr Expr Expr Expr Expr Expr Expr Expr Expr Expr Expr (Option Expr) Expr Spelling PieceSpelling command_step compound_step what_step and_or_step assigned_step branch_step case_step for_step if_step item_step joined_step loop_step pipeline_step redirect_step script_step simple_step word_step piece_step (record { and = and_; next = next })

pub joined_is : (d : Joined) → joined_pattern d ≡ (key (cond (out-Joined d).and AndIf OrIf) ⨾ newlines ⨾ pipeline_pattern (out-Joined d).next)
unfolding command_pattern compound_pattern what_spelled_as and_or_pattern assigned_pattern branch_pattern case_pattern for_pattern if_pattern item_pattern joined_pattern loop_pattern pipeline_pattern redirect_pattern script_listing simple_pattern word_spelling piece_spelling
joined_is d = fold_out-Joined Expr Expr (Bool → PieceSpelling) Expr Expr Expr Expr Expr Expr Expr Expr Expr Expr Expr (Option Expr) Expr Spelling PieceSpelling command_step compound_step what_step and_or_step assigned_step branch_step case_step for_step if_step item_step joined_step loop_step pipeline_step redirect_step script_step simple_step word_step piece_step d

pub pipeline_made : (not_ : Bool) (stages : Vec Command _) → pipeline_pattern (roll-Pipeline (record { not = not_; stages = stages })) ≡ (cond not_ (reserved Bang) empty ⨾ staged (map command_pattern stages.items))
unfolding command_pattern compound_pattern what_spelled_as and_or_pattern assigned_pattern branch_pattern case_pattern for_pattern if_pattern item_pattern joined_pattern loop_pattern pipeline_pattern redirect_pattern script_listing simple_pattern word_spelling piece_spelling
pipeline_made not_ stages = fold-roll-Pipeline Expr Expr (Bool → PieceSpelling) Expr Expr Expr Expr Expr Expr Expr Expr Expr Expr Expr (Option Expr) Expr Spelling PieceSpelling command_step compound_step what_step and_or_step assigned_step branch_step case_step for_step if_step item_step joined_step loop_step pipeline_step redirect_step script_step simple_step word_step piece_step (record { not = not_; stages = stages })

pub pipeline_is : (d : Pipeline) → pipeline_pattern d ≡ (cond (out-Pipeline d).not (reserved Bang) empty ⨾ staged (map command_pattern (out-Pipeline d).stages.items))
unfolding command_pattern compound_pattern what_spelled_as and_or_pattern assigned_pattern branch_pattern case_pattern for_pattern if_pattern item_pattern joined_pattern loop_pattern pipeline_pattern redirect_pattern script_listing simple_pattern word_spelling piece_spelling
pipeline_is d = fold_out-Pipeline Expr Expr (Bool → PieceSpelling) Expr Expr Expr Expr Expr Expr Expr Expr Expr Expr Expr (Option Expr) Expr Spelling PieceSpelling command_step compound_step what_step and_or_step assigned_step branch_step case_step for_step if_step item_step joined_step loop_step pipeline_step redirect_step script_step simple_step word_step piece_step d

pub simple_made : (assigned : Vec Assigned _) (words : Vec Word _) (texts : Vec (List ℕ) _) (redirects : Vec Redirect _) → simple_pattern (roll-Simple (record { assigned = assigned; words = words; texts = texts; redirects = redirects })) ≡ (simple_spelled (map assigned_pattern assigned.items) (map word_spelling words.items) (map redirect_pattern redirects.items))
unfolding command_pattern compound_pattern what_spelled_as and_or_pattern assigned_pattern branch_pattern case_pattern for_pattern if_pattern item_pattern joined_pattern loop_pattern pipeline_pattern redirect_pattern script_listing simple_pattern word_spelling piece_spelling
simple_made assigned words texts redirects = fold-roll-Simple Expr Expr (Bool → PieceSpelling) Expr Expr Expr Expr Expr Expr Expr Expr Expr Expr Expr (Option Expr) Expr Spelling PieceSpelling command_step compound_step what_step and_or_step assigned_step branch_step case_step for_step if_step item_step joined_step loop_step pipeline_step redirect_step script_step simple_step word_step piece_step (record { assigned = assigned; words = words; texts = texts; redirects = redirects })

pub simple_is : (d : Simple) → simple_pattern d ≡ (simple_spelled (map assigned_pattern (out-Simple d).assigned.items) (map word_spelling (out-Simple d).words.items) (map redirect_pattern (out-Simple d).redirects.items))
unfolding command_pattern compound_pattern what_spelled_as and_or_pattern assigned_pattern branch_pattern case_pattern for_pattern if_pattern item_pattern joined_pattern loop_pattern pipeline_pattern redirect_pattern script_listing simple_pattern word_spelling piece_spelling
simple_is d = fold_out-Simple Expr Expr (Bool → PieceSpelling) Expr Expr Expr Expr Expr Expr Expr Expr Expr Expr Expr (Option Expr) Expr Spelling PieceSpelling command_step compound_step what_step and_or_step assigned_step branch_step case_step for_step if_step item_step joined_step loop_step pipeline_step redirect_step script_step simple_step word_step piece_step d

pub assigned_made : (name : List ℕ) (value : Word) → assigned_pattern (roll-Assigned (record { name = name; value = value })) ≡ (assigned_spelled name (word_spelling value))
unfolding command_pattern compound_pattern what_spelled_as and_or_pattern assigned_pattern branch_pattern case_pattern for_pattern if_pattern item_pattern joined_pattern loop_pattern pipeline_pattern redirect_pattern script_listing simple_pattern word_spelling piece_spelling
assigned_made name value = fold-roll-Assigned Expr Expr (Bool → PieceSpelling) Expr Expr Expr Expr Expr Expr Expr Expr Expr Expr Expr (Option Expr) Expr Spelling PieceSpelling command_step compound_step what_step and_or_step assigned_step branch_step case_step for_step if_step item_step joined_step loop_step pipeline_step redirect_step script_step simple_step word_step piece_step (record { name = name; value = value })

pub assigned_is : (d : Assigned) → assigned_pattern d ≡ (assigned_spelled (out-Assigned d).name (word_spelling (out-Assigned d).value))
unfolding command_pattern compound_pattern what_spelled_as and_or_pattern assigned_pattern branch_pattern case_pattern for_pattern if_pattern item_pattern joined_pattern loop_pattern pipeline_pattern redirect_pattern script_listing simple_pattern word_spelling piece_spelling
assigned_is d = fold_out-Assigned Expr Expr (Bool → PieceSpelling) Expr Expr Expr Expr Expr Expr Expr Expr Expr Expr Expr (Option Expr) Expr Spelling PieceSpelling command_step compound_step what_step and_or_step assigned_step branch_step case_step for_step if_step item_step joined_step loop_step pipeline_step redirect_step script_step simple_step word_step piece_step d

pub redirect_made : (fd : ℕ) (kind : RedirectKind) (target : Word) → redirect_pattern (roll-Redirect (record { fd = fd; kind = kind; target = target })) ≡ (redirect_spelled kind fd (word_spelling target))
unfolding command_pattern compound_pattern what_spelled_as and_or_pattern assigned_pattern branch_pattern case_pattern for_pattern if_pattern item_pattern joined_pattern loop_pattern pipeline_pattern redirect_pattern script_listing simple_pattern word_spelling piece_spelling
redirect_made fd kind target = fold-roll-Redirect Expr Expr (Bool → PieceSpelling) Expr Expr Expr Expr Expr Expr Expr Expr Expr Expr Expr (Option Expr) Expr Spelling PieceSpelling command_step compound_step what_step and_or_step assigned_step branch_step case_step for_step if_step item_step joined_step loop_step pipeline_step redirect_step script_step simple_step word_step piece_step (record { fd = fd; kind = kind; target = target })

pub redirect_is : (d : Redirect) → redirect_pattern d ≡ (redirect_spelled (out-Redirect d).kind (out-Redirect d).fd (word_spelling (out-Redirect d).target))
unfolding command_pattern compound_pattern what_spelled_as and_or_pattern assigned_pattern branch_pattern case_pattern for_pattern if_pattern item_pattern joined_pattern loop_pattern pipeline_pattern redirect_pattern script_listing simple_pattern word_spelling piece_spelling
redirect_is d = fold_out-Redirect Expr Expr (Bool → PieceSpelling) Expr Expr Expr Expr Expr Expr Expr Expr Expr Expr Expr (Option Expr) Expr Spelling PieceSpelling command_step compound_step what_step and_or_step assigned_step branch_step case_step for_step if_step item_step joined_step loop_step pipeline_step redirect_step script_step simple_step word_step piece_step d

pub if_made : (branches : Vec Branch _) (o : Option Script) → if_pattern (roll-If (record { branches = branches; other = o })) ≡ (key If_ ⨾ bare ⨾ branches_of (map branch_pattern branches.items) ⨾ else_of (option_map script_pattern o) ⨾ reserved Fi)
unfolding command_pattern compound_pattern what_spelled_as and_or_pattern assigned_pattern branch_pattern case_pattern for_pattern if_pattern item_pattern joined_pattern loop_pattern pipeline_pattern redirect_pattern script_listing simple_pattern word_spelling piece_spelling
if_made branches o = fold-roll-If Expr Expr (Bool → PieceSpelling) Expr Expr Expr Expr Expr Expr Expr Expr Expr Expr Expr (Option Expr) Expr Spelling PieceSpelling command_step compound_step what_step and_or_step assigned_step branch_step case_step for_step if_step item_step joined_step loop_step pipeline_step redirect_step script_step simple_step word_step piece_step (record { branches = branches; other = o }) ∙ ap (λ z. key If_ ⨾ bare ⨾ branches_of (map branch_pattern branches.items) ⨾ else_of (z) ⨾ reserved Fi) (script_option o)

pub if_is : (d : If) → if_pattern d ≡ (key If_ ⨾ bare ⨾ branches_of (map branch_pattern (out-If d).branches.items) ⨾ else_of (option_map script_pattern (out-If d).other) ⨾ reserved Fi)
unfolding command_pattern compound_pattern what_spelled_as and_or_pattern assigned_pattern branch_pattern case_pattern for_pattern if_pattern item_pattern joined_pattern loop_pattern pipeline_pattern redirect_pattern script_listing simple_pattern word_spelling piece_spelling
if_is d = fold_out-If Expr Expr (Bool → PieceSpelling) Expr Expr Expr Expr Expr Expr Expr Expr Expr Expr Expr (Option Expr) Expr Spelling PieceSpelling command_step compound_step what_step and_or_step assigned_step branch_step case_step for_step if_step item_step joined_step loop_step pipeline_step redirect_step script_step simple_step word_step piece_step d ∙ ap (λ z. key If_ ⨾ bare ⨾ branches_of (map branch_pattern (out-If d).branches.items) ⨾ else_of (z) ⨾ reserved Fi) (script_option (out-If d).other)

pub branch_made : (test : Script) (body : Script) → branch_pattern (roll-Branch (record { test = test; body = body })) ≡ (block_of (script_pattern test) ⨾ reserved Then ⨾ block_of (script_pattern body))
unfolding command_pattern compound_pattern what_spelled_as and_or_pattern assigned_pattern branch_pattern case_pattern for_pattern if_pattern item_pattern joined_pattern loop_pattern pipeline_pattern redirect_pattern script_listing simple_pattern word_spelling piece_spelling
branch_made test body = fold-roll-Branch Expr Expr (Bool → PieceSpelling) Expr Expr Expr Expr Expr Expr Expr Expr Expr Expr Expr (Option Expr) Expr Spelling PieceSpelling command_step compound_step what_step and_or_step assigned_step branch_step case_step for_step if_step item_step joined_step loop_step pipeline_step redirect_step script_step simple_step word_step piece_step (record { test = test; body = body })

pub branch_is : (d : Branch) → branch_pattern d ≡ (block_of (script_pattern (out-Branch d).test) ⨾ reserved Then ⨾ block_of (script_pattern (out-Branch d).body))
unfolding command_pattern compound_pattern what_spelled_as and_or_pattern assigned_pattern branch_pattern case_pattern for_pattern if_pattern item_pattern joined_pattern loop_pattern pipeline_pattern redirect_pattern script_listing simple_pattern word_spelling piece_spelling
branch_is d = fold_out-Branch Expr Expr (Bool → PieceSpelling) Expr Expr Expr Expr Expr Expr Expr Expr Expr Expr Expr (Option Expr) Expr Spelling PieceSpelling command_step compound_step what_step and_or_step assigned_step branch_step case_step for_step if_step item_step joined_step loop_step pipeline_step redirect_step script_step simple_step word_step piece_step d

pub loop_made : (until : Bool) (test : Script) (body : Script) → loop_pattern (roll-Loop (record { until = until; test = test; body = body })) ≡ (key (cond until Until While) ⨾ bare ⨾ block_of (script_pattern test) ⨾ do_of (script_pattern body))
unfolding command_pattern compound_pattern what_spelled_as and_or_pattern assigned_pattern branch_pattern case_pattern for_pattern if_pattern item_pattern joined_pattern loop_pattern pipeline_pattern redirect_pattern script_listing simple_pattern word_spelling piece_spelling
loop_made until test body = fold-roll-Loop Expr Expr (Bool → PieceSpelling) Expr Expr Expr Expr Expr Expr Expr Expr Expr Expr Expr (Option Expr) Expr Spelling PieceSpelling command_step compound_step what_step and_or_step assigned_step branch_step case_step for_step if_step item_step joined_step loop_step pipeline_step redirect_step script_step simple_step word_step piece_step (record { until = until; test = test; body = body })

pub loop_is : (d : Loop) → loop_pattern d ≡ (key (cond (out-Loop d).until Until While) ⨾ bare ⨾ block_of (script_pattern (out-Loop d).test) ⨾ do_of (script_pattern (out-Loop d).body))
unfolding command_pattern compound_pattern what_spelled_as and_or_pattern assigned_pattern branch_pattern case_pattern for_pattern if_pattern item_pattern joined_pattern loop_pattern pipeline_pattern redirect_pattern script_listing simple_pattern word_spelling piece_spelling
loop_is d = fold_out-Loop Expr Expr (Bool → PieceSpelling) Expr Expr Expr Expr Expr Expr Expr Expr Expr Expr Expr (Option Expr) Expr Spelling PieceSpelling command_step compound_step what_step and_or_step assigned_step branch_step case_step for_step if_step item_step joined_step loop_step pipeline_step redirect_step script_step simple_step word_step piece_step d

pub for_made : (name : List ℕ) (words : Vec Word _) (body : Script) → for_pattern (roll-For (record { name = name; words = words; body = body })) ≡ (key For_ ⨾ bare ⨾ name_spelled name ⨾ reserved In ⨾ all (map any_word (map word_spelling words.items)) ⨾ sequential ⨾ do_of (script_pattern body))
unfolding command_pattern compound_pattern what_spelled_as and_or_pattern assigned_pattern branch_pattern case_pattern for_pattern if_pattern item_pattern joined_pattern loop_pattern pipeline_pattern redirect_pattern script_listing simple_pattern word_spelling piece_spelling
for_made name words body = fold-roll-For Expr Expr (Bool → PieceSpelling) Expr Expr Expr Expr Expr Expr Expr Expr Expr Expr Expr (Option Expr) Expr Spelling PieceSpelling command_step compound_step what_step and_or_step assigned_step branch_step case_step for_step if_step item_step joined_step loop_step pipeline_step redirect_step script_step simple_step word_step piece_step (record { name = name; words = words; body = body })

pub for_is : (d : For) → for_pattern d ≡ (key For_ ⨾ bare ⨾ name_spelled (out-For d).name ⨾ reserved In ⨾ all (map any_word (map word_spelling (out-For d).words.items)) ⨾ sequential ⨾ do_of (script_pattern (out-For d).body))
unfolding command_pattern compound_pattern what_spelled_as and_or_pattern assigned_pattern branch_pattern case_pattern for_pattern if_pattern item_pattern joined_pattern loop_pattern pipeline_pattern redirect_pattern script_listing simple_pattern word_spelling piece_spelling
for_is d = fold_out-For Expr Expr (Bool → PieceSpelling) Expr Expr Expr Expr Expr Expr Expr Expr Expr Expr Expr (Option Expr) Expr Spelling PieceSpelling command_step compound_step what_step and_or_step assigned_step branch_step case_step for_step if_step item_step joined_step loop_step pipeline_step redirect_step script_step simple_step word_step piece_step d

pub case_made : (word : Word) (items : Vec Item _) → case_pattern (roll-Case (record { word = word; items = items })) ≡ (key Case_ ⨾ bare ⨾ any_word (word_spelling word) ⨾ reserved In ⨾ newlines ⨾ items_of (map item_pattern items.items) ⨾ reserved Esac)
unfolding command_pattern compound_pattern what_spelled_as and_or_pattern assigned_pattern branch_pattern case_pattern for_pattern if_pattern item_pattern joined_pattern loop_pattern pipeline_pattern redirect_pattern script_listing simple_pattern word_spelling piece_spelling
case_made word items = fold-roll-Case Expr Expr (Bool → PieceSpelling) Expr Expr Expr Expr Expr Expr Expr Expr Expr Expr Expr (Option Expr) Expr Spelling PieceSpelling command_step compound_step what_step and_or_step assigned_step branch_step case_step for_step if_step item_step joined_step loop_step pipeline_step redirect_step script_step simple_step word_step piece_step (record { word = word; items = items })

pub case_is : (d : Case) → case_pattern d ≡ (key Case_ ⨾ bare ⨾ any_word (word_spelling (out-Case d).word) ⨾ reserved In ⨾ newlines ⨾ items_of (map item_pattern (out-Case d).items.items) ⨾ reserved Esac)
unfolding command_pattern compound_pattern what_spelled_as and_or_pattern assigned_pattern branch_pattern case_pattern for_pattern if_pattern item_pattern joined_pattern loop_pattern pipeline_pattern redirect_pattern script_listing simple_pattern word_spelling piece_spelling
case_is d = fold_out-Case Expr Expr (Bool → PieceSpelling) Expr Expr Expr Expr Expr Expr Expr Expr Expr Expr Expr (Option Expr) Expr Spelling PieceSpelling command_step compound_step what_step and_or_step assigned_step branch_step case_step for_step if_step item_step joined_step loop_step pipeline_step redirect_step script_step simple_step word_step piece_step d

pub item_made : (patterns : Vec Word _) (o : Option Script) → item_pattern (roll-Item (record { patterns = patterns; body = o })) ≡ (patterns_of (map word_spelling patterns.items) ⨾ key RightParen ⨾ newlines ⨾ body_of (option_map script_pattern o))
unfolding command_pattern compound_pattern what_spelled_as and_or_pattern assigned_pattern branch_pattern case_pattern for_pattern if_pattern item_pattern joined_pattern loop_pattern pipeline_pattern redirect_pattern script_listing simple_pattern word_spelling piece_spelling
item_made patterns o = fold-roll-Item Expr Expr (Bool → PieceSpelling) Expr Expr Expr Expr Expr Expr Expr Expr Expr Expr Expr (Option Expr) Expr Spelling PieceSpelling command_step compound_step what_step and_or_step assigned_step branch_step case_step for_step if_step item_step joined_step loop_step pipeline_step redirect_step script_step simple_step word_step piece_step (record { patterns = patterns; body = o }) ∙ ap (λ z. patterns_of (map word_spelling patterns.items) ⨾ key RightParen ⨾ newlines ⨾ body_of (z)) (script_option o)

pub item_is : (d : Item) → item_pattern d ≡ (patterns_of (map word_spelling (out-Item d).patterns.items) ⨾ key RightParen ⨾ newlines ⨾ body_of (option_map script_pattern (out-Item d).body))
unfolding command_pattern compound_pattern what_spelled_as and_or_pattern assigned_pattern branch_pattern case_pattern for_pattern if_pattern item_pattern joined_pattern loop_pattern pipeline_pattern redirect_pattern script_listing simple_pattern word_spelling piece_spelling
item_is d = fold_out-Item Expr Expr (Bool → PieceSpelling) Expr Expr Expr Expr Expr Expr Expr Expr Expr Expr Expr (Option Expr) Expr Spelling PieceSpelling command_step compound_step what_step and_or_step assigned_step branch_step case_step for_step if_step item_step joined_step loop_step pipeline_step redirect_step script_step simple_step word_step piece_step d ∙ ap (λ z. patterns_of (map word_spelling (out-Item d).patterns.items) ⨾ key RightParen ⨾ newlines ⨾ body_of (z)) (script_option (out-Item d).body)

pub word_made : (pieces : Vec WordPiece _) → word_spelling (roll-Word (record { pieces = pieces })) ≡ (of_pieces (map piece_spelling pieces.items))
unfolding command_pattern compound_pattern what_spelled_as and_or_pattern assigned_pattern branch_pattern case_pattern for_pattern if_pattern item_pattern joined_pattern loop_pattern pipeline_pattern redirect_pattern script_listing simple_pattern word_spelling piece_spelling
word_made pieces = fold-roll-Word Expr Expr (Bool → PieceSpelling) Expr Expr Expr Expr Expr Expr Expr Expr Expr Expr Expr (Option Expr) Expr Spelling PieceSpelling command_step compound_step what_step and_or_step assigned_step branch_step case_step for_step if_step item_step joined_step loop_step pipeline_step redirect_step script_step simple_step word_step piece_step (record { pieces = pieces })

pub word_is : (d : Word) → word_spelling d ≡ (of_pieces (map piece_spelling (out-Word d).pieces.items))
unfolding command_pattern compound_pattern what_spelled_as and_or_pattern assigned_pattern branch_pattern case_pattern for_pattern if_pattern item_pattern joined_pattern loop_pattern pipeline_pattern redirect_pattern script_listing simple_pattern word_spelling piece_spelling
word_is d = fold_out-Word Expr Expr (Bool → PieceSpelling) Expr Expr Expr Expr Expr Expr Expr Expr Expr Expr Expr (Option Expr) Expr Spelling PieceSpelling command_step compound_step what_step and_or_step assigned_step branch_step case_step for_step if_step item_step joined_step loop_step pipeline_step redirect_step script_step simple_step word_step piece_step d

pub piece_made : (quoted : Bool) (what_ : WordWhat) → piece_spelling (roll-WordPiece (record { quoted = quoted; what = what_ })) ≡ (what_spelled_as what_ quoted)
unfolding command_pattern compound_pattern what_spelled_as and_or_pattern assigned_pattern branch_pattern case_pattern for_pattern if_pattern item_pattern joined_pattern loop_pattern pipeline_pattern redirect_pattern script_listing simple_pattern word_spelling piece_spelling
piece_made quoted what_ = fold-roll-WordPiece Expr Expr (Bool → PieceSpelling) Expr Expr Expr Expr Expr Expr Expr Expr Expr Expr Expr (Option Expr) Expr Spelling PieceSpelling command_step compound_step what_step and_or_step assigned_step branch_step case_step for_step if_step item_step joined_step loop_step pipeline_step redirect_step script_step simple_step word_step piece_step (record { quoted = quoted; what = what_ })

pub piece_is : (d : WordPiece) → piece_spelling d ≡ (what_spelled_as (out-WordPiece d).what (out-WordPiece d).quoted)
unfolding command_pattern compound_pattern what_spelled_as and_or_pattern assigned_pattern branch_pattern case_pattern for_pattern if_pattern item_pattern joined_pattern loop_pattern pipeline_pattern redirect_pattern script_listing simple_pattern word_spelling piece_spelling
piece_is d = fold_out-WordPiece Expr Expr (Bool → PieceSpelling) Expr Expr Expr Expr Expr Expr Expr Expr Expr Expr Expr (Option Expr) Expr Spelling PieceSpelling command_step compound_step what_step and_or_step assigned_step branch_step case_step for_step if_step item_step joined_step loop_step pipeline_step redirect_step script_step simple_step word_step piece_step d

pub command_Simple : (x : Simple) → command_pattern (the-Simple x) ≡ (simple_pattern x)
unfolding command_pattern compound_pattern what_spelled_as and_or_pattern assigned_pattern branch_pattern case_pattern for_pattern if_pattern item_pattern joined_pattern loop_pattern pipeline_pattern redirect_pattern script_listing simple_pattern word_spelling piece_spelling
command_Simple x = ap command_pattern (sym (rolls-Simple x)) ∙ fold-roll-Command Expr Expr (Bool → PieceSpelling) Expr Expr Expr Expr Expr Expr Expr Expr Expr Expr Expr (Option Expr) Expr Spelling PieceSpelling command_step compound_step what_step and_or_step assigned_step branch_step case_step for_step if_step item_step joined_step loop_step pipeline_step redirect_step script_step simple_step word_step piece_step (Command-F.Simple x)

pub command_Compound : (x : Compound) (rs : Vec Redirect _) → command_pattern (the-Compound x rs) ≡ (compound_pattern x ⨾ all (map redirect_pattern rs.items))
unfolding command_pattern compound_pattern what_spelled_as and_or_pattern assigned_pattern branch_pattern case_pattern for_pattern if_pattern item_pattern joined_pattern loop_pattern pipeline_pattern redirect_pattern script_listing simple_pattern word_spelling piece_spelling
command_Compound x rs = ap command_pattern (sym (rolls-Compound x rs)) ∙ fold-roll-Command Expr Expr (Bool → PieceSpelling) Expr Expr Expr Expr Expr Expr Expr Expr Expr Expr Expr (Option Expr) Expr Spelling PieceSpelling command_step compound_step what_step and_or_step assigned_step branch_step case_step for_step if_step item_step joined_step loop_step pipeline_step redirect_step script_step simple_step word_step piece_step (Command-F.Compound x rs)

pub compound_Subshell : (x : Script) → compound_pattern (the-Subshell x) ≡ (key LeftParen ⨾ block_of (script_pattern x) ⨾ key RightParen)
unfolding command_pattern compound_pattern what_spelled_as and_or_pattern assigned_pattern branch_pattern case_pattern for_pattern if_pattern item_pattern joined_pattern loop_pattern pipeline_pattern redirect_pattern script_listing simple_pattern word_spelling piece_spelling
compound_Subshell x = ap compound_pattern (sym (rolls-Subshell x)) ∙ fold-roll-Compound Expr Expr (Bool → PieceSpelling) Expr Expr Expr Expr Expr Expr Expr Expr Expr Expr Expr (Option Expr) Expr Spelling PieceSpelling command_step compound_step what_step and_or_step assigned_step branch_step case_step for_step if_step item_step joined_step loop_step pipeline_step redirect_step script_step simple_step word_step piece_step (Compound-F.Subshell x)

pub compound_Group : (x : Script) → compound_pattern (the-Group x) ≡ (key LeftBrace ⨾ bare ⨾ block_of (script_pattern x) ⨾ reserved RightBrace)
unfolding command_pattern compound_pattern what_spelled_as and_or_pattern assigned_pattern branch_pattern case_pattern for_pattern if_pattern item_pattern joined_pattern loop_pattern pipeline_pattern redirect_pattern script_listing simple_pattern word_spelling piece_spelling
compound_Group x = ap compound_pattern (sym (rolls-Group x)) ∙ fold-roll-Compound Expr Expr (Bool → PieceSpelling) Expr Expr Expr Expr Expr Expr Expr Expr Expr Expr Expr (Option Expr) Expr Spelling PieceSpelling command_step compound_step what_step and_or_step assigned_step branch_step case_step for_step if_step item_step joined_step loop_step pipeline_step redirect_step script_step simple_step word_step piece_step (Compound-F.Group x)

pub compound_If : (x : If) → compound_pattern (the-If x) ≡ (if_pattern x)
unfolding command_pattern compound_pattern what_spelled_as and_or_pattern assigned_pattern branch_pattern case_pattern for_pattern if_pattern item_pattern joined_pattern loop_pattern pipeline_pattern redirect_pattern script_listing simple_pattern word_spelling piece_spelling
compound_If x = ap compound_pattern (sym (rolls-If x)) ∙ fold-roll-Compound Expr Expr (Bool → PieceSpelling) Expr Expr Expr Expr Expr Expr Expr Expr Expr Expr Expr (Option Expr) Expr Spelling PieceSpelling command_step compound_step what_step and_or_step assigned_step branch_step case_step for_step if_step item_step joined_step loop_step pipeline_step redirect_step script_step simple_step word_step piece_step (Compound-F.If x)

pub compound_Loop : (x : Loop) → compound_pattern (the-Loop x) ≡ (loop_pattern x)
unfolding command_pattern compound_pattern what_spelled_as and_or_pattern assigned_pattern branch_pattern case_pattern for_pattern if_pattern item_pattern joined_pattern loop_pattern pipeline_pattern redirect_pattern script_listing simple_pattern word_spelling piece_spelling
compound_Loop x = ap compound_pattern (sym (rolls-Loop x)) ∙ fold-roll-Compound Expr Expr (Bool → PieceSpelling) Expr Expr Expr Expr Expr Expr Expr Expr Expr Expr Expr (Option Expr) Expr Spelling PieceSpelling command_step compound_step what_step and_or_step assigned_step branch_step case_step for_step if_step item_step joined_step loop_step pipeline_step redirect_step script_step simple_step word_step piece_step (Compound-F.Loop x)

pub compound_For : (x : For) → compound_pattern (the-For x) ≡ (for_pattern x)
unfolding command_pattern compound_pattern what_spelled_as and_or_pattern assigned_pattern branch_pattern case_pattern for_pattern if_pattern item_pattern joined_pattern loop_pattern pipeline_pattern redirect_pattern script_listing simple_pattern word_spelling piece_spelling
compound_For x = ap compound_pattern (sym (rolls-For x)) ∙ fold-roll-Compound Expr Expr (Bool → PieceSpelling) Expr Expr Expr Expr Expr Expr Expr Expr Expr Expr Expr (Option Expr) Expr Spelling PieceSpelling command_step compound_step what_step and_or_step assigned_step branch_step case_step for_step if_step item_step joined_step loop_step pipeline_step redirect_step script_step simple_step word_step piece_step (Compound-F.For x)

pub compound_Case : (x : Case) → compound_pattern (the-Case x) ≡ (case_pattern x)
unfolding command_pattern compound_pattern what_spelled_as and_or_pattern assigned_pattern branch_pattern case_pattern for_pattern if_pattern item_pattern joined_pattern loop_pattern pipeline_pattern redirect_pattern script_listing simple_pattern word_spelling piece_spelling
compound_Case x = ap compound_pattern (sym (rolls-Case x)) ∙ fold-roll-Compound Expr Expr (Bool → PieceSpelling) Expr Expr Expr Expr Expr Expr Expr Expr Expr Expr Expr (Option Expr) Expr Spelling PieceSpelling command_step compound_step what_step and_or_step assigned_step branch_step case_step for_step if_step item_step joined_step loop_step pipeline_step redirect_step script_step simple_step word_step piece_step (Compound-F.Case x)

pub what_Bytes : (t : List ℕ) → what_spelled_as (the-Bytes t) ≡ (bytes_spelling t)
unfolding command_pattern compound_pattern what_spelled_as and_or_pattern assigned_pattern branch_pattern case_pattern for_pattern if_pattern item_pattern joined_pattern loop_pattern pipeline_pattern redirect_pattern script_listing simple_pattern word_spelling piece_spelling
what_Bytes t = ap what_spelled_as (sym (rolls-Bytes t)) ∙ fold-roll-WordWhat Expr Expr (Bool → PieceSpelling) Expr Expr Expr Expr Expr Expr Expr Expr Expr Expr Expr (Option Expr) Expr Spelling PieceSpelling command_step compound_step what_step and_or_step assigned_step branch_step case_step for_step if_step item_step joined_step loop_step pipeline_step redirect_step script_step simple_step word_step piece_step (WordWhat-F.Bytes t)

pub what_Value : (x : Value) → what_spelled_as (the-Value x) ≡ (value_spelling x.name x.form)
unfolding command_pattern compound_pattern what_spelled_as and_or_pattern assigned_pattern branch_pattern case_pattern for_pattern if_pattern item_pattern joined_pattern loop_pattern pipeline_pattern redirect_pattern script_listing simple_pattern word_spelling piece_spelling
what_Value x = ap what_spelled_as (sym (rolls-Value x)) ∙ fold-roll-WordWhat Expr Expr (Bool → PieceSpelling) Expr Expr Expr Expr Expr Expr Expr Expr Expr Expr Expr (Option Expr) Expr Spelling PieceSpelling command_step compound_step what_step and_or_step assigned_step branch_step case_step for_step if_step item_step joined_step loop_step pipeline_step redirect_step script_step simple_step word_step piece_step (WordWhat-F.Value x)

pub what_Argument : (x : Value) → what_spelled_as (the-Argument x) ≡ (argument_spelling x.name x.form)
unfolding command_pattern compound_pattern what_spelled_as and_or_pattern assigned_pattern branch_pattern case_pattern for_pattern if_pattern item_pattern joined_pattern loop_pattern pipeline_pattern redirect_pattern script_listing simple_pattern word_spelling piece_spelling
what_Argument x = ap what_spelled_as (sym (rolls-Argument x)) ∙ fold-roll-WordWhat Expr Expr (Bool → PieceSpelling) Expr Expr Expr Expr Expr Expr Expr Expr Expr Expr Expr (Option Expr) Expr Spelling PieceSpelling command_step compound_step what_step and_or_step assigned_step branch_step case_step for_step if_step item_step joined_step loop_step pipeline_step redirect_step script_step simple_step word_step piece_step (WordWhat-F.Argument x)

pub what_End : what_spelled_as (the-End) ≡ (end_spelling)
unfolding command_pattern compound_pattern what_spelled_as and_or_pattern assigned_pattern branch_pattern case_pattern for_pattern if_pattern item_pattern joined_pattern loop_pattern pipeline_pattern redirect_pattern script_listing simple_pattern word_spelling piece_spelling
what_End = ap what_spelled_as (sym (rolls-End)) ∙ fold-roll-WordWhat Expr Expr (Bool → PieceSpelling) Expr Expr Expr Expr Expr Expr Expr Expr Expr Expr Expr (Option Expr) Expr Spelling PieceSpelling command_step compound_step what_step and_or_step assigned_step branch_step case_step for_step if_step item_step joined_step loop_step pipeline_step redirect_step script_step simple_step word_step piece_step (WordWhat-F.End)

pub what_Output : (x : Script) → what_spelled_as (the-Output x) ≡ (output_spelling (script_listing x))
unfolding command_pattern compound_pattern what_spelled_as and_or_pattern assigned_pattern branch_pattern case_pattern for_pattern if_pattern item_pattern joined_pattern loop_pattern pipeline_pattern redirect_pattern script_listing simple_pattern word_spelling piece_spelling
what_Output x = ap what_spelled_as (sym (rolls-Output x)) ∙ fold-roll-WordWhat Expr Expr (Bool → PieceSpelling) Expr Expr Expr Expr Expr Expr Expr Expr Expr Expr Expr (Option Expr) Expr Spelling PieceSpelling command_step compound_step what_step and_or_step assigned_step branch_step case_step for_step if_step item_step joined_step loop_step pipeline_step redirect_step script_step simple_step word_step piece_step (WordWhat-F.Output x)
