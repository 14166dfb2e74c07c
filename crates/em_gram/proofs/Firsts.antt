-- What each tree begins with.
use Rattle.std.proofs.Common.{◌≡◌, ◌⊎◌, inl, inr, ℕ, Bool, true, false, ◌||◌, cond, List, [], ◌∷◌, ◌++◌, map, Option, Some, None, refl, ap, ◌∙◌}
use Rattle.std.specs.Option.{option_map}
use Rattle.em_grammar.specs.Production.{empty, this, last, is_among, ◌⨾◌, Lang}
use Rattle.em_grammar.specs.Checks.{within}
use Rattle.em_grammar.proofs.Reading.{among-append}
use Rattle.em_grammar.specs.Gives.{begins_with, all}
use Rattle.em_lexeme.specs.declared.lexeme.What.{What}
use Rattle.em_token.specs.Kinds.{kinds, class_of, words, words_but_esac, command_words, reserved_words}
use Rattle.em_token.specs.Shell.{shell, Expr, key, newlines, bare, reserved}
use Rattle.em_gram.specs.Nesting.{piece_pattern}
use Rattle.em_gram.specs.Patterns.{Spelling, PieceSpelling, never, digit_of, bytes_spelling, output_spelling, value_spelling, argument_spelling, end_spelling, some_list, list_of, word_spelled, any_word, words_spelled, weave, mixed, some_parts, block_of, staged, first_pattern_of, patterns_of}
use Rattle.em_gram.specs.Patterns.{command_pattern, compound_pattern, what_spelled_as, and_or_pattern, assigned_pattern, case_pattern, for_pattern, if_pattern, item_pattern, joined_pattern, loop_pattern, pipeline_pattern, redirect_pattern, script_listing, script_pattern, body_pattern, simple_pattern, word_spelling, piece_spelling}
use Rattle.em_gram.specs.Same.{Shape, nothing, pair, bytes, flag, variant, row, optional, what_shape, word_shape, script_shape, piece_shape, command_shape, compound_shape, simple_shape, redirect_shape, if_shape, loop_shape, for_shape, case_shape}
use Rattle.em_token.specs.declared.kind.Kind.TheVariants.{Plain, Name, Assignment, Bang, If as If_, While, Until, For as For_, Case as Case_, LeftBrace, Bytes, Assigning, Value as Value_, ArgumentStart, ArgumentEnd, SubstitutionStart, SubstitutionEnd, AndIf, OrIf, LeftParen, RightParen, RightBrace}
use Rattle.em_syntax.specs.declared.tree.Command.{Command}
use Rattle.em_syntax.specs.declared.tree.Compound.{Compound}
use Rattle.em_syntax.specs.declared.tree.WordWhat.{WordWhat}
use Rattle.em_syntax.specs.declared.tree.WordWhat.TheVariants.{Bytes as the-Bytes, Value as the-Value, Argument as the-Argument, End as the-End, Output as the-Output}
use Rattle.em_syntax.specs.declared.tree.AndOr.{AndOr, out-AndOr}
use Rattle.em_syntax.specs.declared.tree.Assigned.{Assigned}
use Rattle.em_syntax.specs.declared.tree.Case.{Case}
use Rattle.em_syntax.specs.declared.tree.For.{For}
use Rattle.em_syntax.specs.declared.tree.If.{If}
use Rattle.em_syntax.specs.declared.tree.Item.{Item, out-Item}
use Rattle.em_syntax.specs.declared.tree.Joined.{Joined, out-Joined}
use Rattle.em_syntax.specs.declared.tree.Loop.{Loop, out-Loop}
use Rattle.em_syntax.specs.declared.tree.Pipeline.{Pipeline, out-Pipeline}
use Rattle.em_syntax.specs.declared.tree.Redirect.{Redirect}
use Rattle.em_syntax.specs.declared.tree.Script.{Script, out-Script}
use Rattle.em_syntax.specs.declared.tree.Simple.{Simple, out-Simple}
use Rattle.em_syntax.specs.declared.tree.Value.{Value}
use Rattle.em_syntax.specs.declared.tree.Word.{Word}
use Rattle.em_syntax.specs.declared.tree.WordPiece.{WordPiece, out-WordPiece}
use Rattle.em_gram.proofs.Spellings.{and_or_is, assigned_is, case_is, for_is, if_is, item_is, joined_is, loop_is, pipeline_is, script_is, simple_is, piece_is, what_Bytes, what_Value, what_Argument, what_End, what_Output, command_Simple, command_Compound, compound_Subshell, compound_Group, compound_If, compound_Loop, compound_For, compound_Case}
use Rattle.em_gram.proofs.Shapes.{piece_shape_is, what_shape_Bytes, what_shape_Value, what_shape_Argument, what_shape_End, what_shape_Output, WordWhat_case, what_cases, Compound_case, Command_case, compound_cases, command_cases, compound_shape_Subshell, compound_shape_Group, compound_shape_If, compound_shape_Loop, compound_shape_For, compound_shape_Case, command_shape_Simple, command_shape_Compound}
use Rattle.em_gram.proofs.Starting.{Pat, redirect_begins, begins_key, begins_this, begins_wider, begins_redirect}
use Rattle.em_gram.proofs.Alike.{Ends, Begins, begin_one, begin_then, begin_wider, begin_as}

abbrev pub piece_begins : List ℕ
piece_begins = kinds (Bytes ∷ Assigning ∷ Value_ ∷ ArgumentStart ∷ ArgumentEnd ∷ SubstitutionStart ∷ [])

abbrev pub simple_begins : List ℕ
simple_begins = kinds (Name ∷ Plain ∷ Assignment ∷ []) ++ redirect_begins

abbrev pub compound_begins : List ℕ
compound_begins = kinds (LeftParen ∷ LeftBrace ∷ If_ ∷ While ∷ Until ∷ For_ ∷ Case_ ∷ [])

abbrev pub command_begins : List ℕ
command_begins = simple_begins ++ compound_begins

abbrev pub pipeline_begins : List ℕ
pipeline_begins = kinds (Bang ∷ []) ++ command_begins

abbrev pub item_begins : List ℕ
item_begins = kinds (LeftParen ∷ []) ++ words_but_esac

-- pieces, by what they are
pub data PieceView (p : WordPiece) : Type 0 where
  bytes_view : (q : Bool) (t : List ℕ) → piece_pattern p ≡ this (kinds (Bytes ∷ Assigning ∷ [])) (What.Bytes q t) → piece_shape p ≡ pair (flag q) (variant 0 (bytes t)) → (piece_spelling p).digit ≡ digit_of q t → PieceView p
  value_view : (q : Bool) (n f : List ℕ) → piece_pattern p ≡ this (kinds (Value_ ∷ [])) (What.Value q n f) → piece_shape p ≡ pair (flag q) (variant 1 (pair (bytes n) (bytes f))) → (piece_spelling p).digit ≡ None → PieceView p
  argument_view : (q : Bool) (n f : List ℕ) → piece_pattern p ≡ this (kinds (ArgumentStart ∷ [])) (What.ArgumentStart q n f) → piece_shape p ≡ pair (flag q) (variant 2 (pair (bytes n) (bytes f))) → (piece_spelling p).digit ≡ None → PieceView p
  end_view : (q : Bool) → piece_pattern p ≡ cond q never (key ArgumentEnd) → piece_shape p ≡ pair (flag q) (variant 3 nothing) → (piece_spelling p).digit ≡ None → PieceView p
  output_view : (q : Bool) (s : Script) → piece_pattern p ≡ (this (kinds (SubstitutionStart ∷ [])) (What.SubstitutionStart q) ⨾ newlines ⨾ body_pattern s ⨾ key SubstitutionEnd) → piece_shape p ≡ pair (flag q) (variant 4 (script_shape s)) → (piece_spelling p).digit ≡ None → PieceView p

module _ (p : WordPiece) where
  abbrev Quoted : Bool
  Quoted = (out-WordPiece p).quoted

  spelled : (w : WordWhat) (g : Bool → PieceSpelling) → (out-WordPiece p).what ≡ w → what_spelled_as w ≡ g → piece_spelling p ≡ g Quoted
  spelled w g e i = piece_is p ∙ ap (λ z. what_spelled_as z Quoted) e ∙ ap (λ h. h Quoted) i

  shaped : (w : WordWhat) (x : Shape) → (out-WordPiece p).what ≡ w → what_shape w ≡ x → piece_shape p ≡ pair (flag Quoted) x
  shaped w x e i = piece_shape_is p ∙ ap (λ z. pair (flag Quoted) z) (ap what_shape e ∙ i)

  pub piece_view : PieceView p
  piece_view = at (what_cases (out-WordPiece p).what)
    where
      at : WordWhat_case (out-WordPiece p).what → PieceView p
      at (inl (t, e)) = let s = spelled (the-Bytes t) (bytes_spelling t) e (what_Bytes t) in bytes_view Quoted t (ap (λ z. z.pattern) s) (shaped (the-Bytes t) (variant 0 (bytes t)) e (what_shape_Bytes t)) (ap (λ z. z.digit) s)
      at (inr (inl (v, e))) = let s = spelled (the-Value v) (value_spelling v.name v.form) e (what_Value v) in value_view Quoted v.name v.form (ap (λ z. z.pattern) s) (shaped (the-Value v) (variant 1 (pair (bytes v.name) (bytes v.form))) e (what_shape_Value v)) (ap (λ z. z.digit) s)
      at (inr (inr (inl (v, e)))) = let s = spelled (the-Argument v) (argument_spelling v.name v.form) e (what_Argument v) in argument_view Quoted v.name v.form (ap (λ z. z.pattern) s) (shaped (the-Argument v) (variant 2 (pair (bytes v.name) (bytes v.form))) e (what_shape_Argument v)) (ap (λ z. z.digit) s)
      at (inr (inr (inr (inl e)))) = let s = spelled the-End end_spelling e what_End in end_view Quoted (ap (λ z. z.pattern) s) (shaped the-End (variant 3 nothing) e what_shape_End) (ap (λ z. z.digit) s)
      at (inr (inr (inr (inr (s, e))))) = let i = spelled (the-Output s) (output_spelling (script_listing s)) e (what_Output s) in output_view Quoted s (ap (λ z. z.pattern) i) (shaped (the-Output s) (variant 4 (script_shape s)) e (what_shape_Output s)) (ap (λ z. z.digit) i)

pub begin_this : (s u : List ℕ) (w : What) → within s u ≡ true → Begins (this s w) u
begin_this s u w i = record { begins = λ K ts h. begins_wider s u i ts (begins_this s w K ts h) }

abbrev pub piece_classes : {p : WordPiece} → PieceView p → List ℕ
piece_classes (bytes_view q t e s d) = kinds (Bytes ∷ Assigning ∷ [])
piece_classes (value_view q n f e s d) = kinds (Value_ ∷ [])
piece_classes (argument_view q n f e s d) = kinds (ArgumentStart ∷ [])
piece_classes (end_view q e s d) = kinds (ArgumentEnd ∷ [])
piece_classes (output_view q c e s d) = kinds (SubstitutionStart ∷ [])

begin_end : (q : Bool) → Begins (cond q never (key ArgumentEnd)) (kinds (ArgumentEnd ∷ []))
begin_end true = record { begins = λ K ts h. absurd (let k = h.1 in cc) }
begin_end false = begin_one (kinds (ArgumentEnd ∷ [])) (kinds (ArgumentEnd ∷ [])) refl

pub begin_view : {p : WordPiece} (v : PieceView p) → Begins (piece_pattern p) (piece_classes v)
begin_view (bytes_view q t e s d) = begin_as e (begin_this (kinds (Bytes ∷ Assigning ∷ [])) (kinds (Bytes ∷ Assigning ∷ [])) (What.Bytes q t) refl)
begin_view (value_view q n f e s d) = begin_as e (begin_this (kinds (Value_ ∷ [])) (kinds (Value_ ∷ [])) (What.Value q n f) refl)
begin_view (argument_view q n f e s d) = begin_as e (begin_this (kinds (ArgumentStart ∷ [])) (kinds (ArgumentStart ∷ [])) (What.ArgumentStart q n f) refl)
begin_view (end_view q e s d) = begin_as e (begin_end q)
begin_view (output_view q c e s d) = begin_as e (begin_then (begin_this (kinds (SubstitutionStart ∷ [])) (kinds (SubstitutionStart ∷ [])) (What.SubstitutionStart q) refl))

classes_within : {p : WordPiece} (v : PieceView p) → within (piece_classes v) piece_begins ≡ true
classes_within (bytes_view q t e s d) = refl
classes_within (value_view q n f e s d) = refl
classes_within (argument_view q n f e s d) = refl
classes_within (end_view q e s d) = refl
classes_within (output_view q c e s d) = refl

pub begin_piece : (p : WordPiece) → Begins (piece_pattern p) piece_begins
begin_piece p = begin_wider (piece_classes (piece_view p)) piece_begins (classes_within (piece_view p)) (begin_view (piece_view p))

-- words, assignments, redirections
pub begin_word : (s : List ℕ) (w : Spelling) → Begins (word_spelled s w) s
begin_word s w = begin_then (record { begins = λ K ts h. begins_key s K ts h })

pub begin_assigned : (a : Assigned) → Begins (assigned_pattern a) (kinds (Assignment ∷ []))
begin_assigned a = begin_as (assigned_is a) (begin_then (begin_one (kinds (Assignment ∷ [])) (kinds (Assignment ∷ [])) refl))

pub begin_redirect : (r : Redirect) → Begins (redirect_pattern r) redirect_begins
begin_redirect r = record { begins = λ K ts h. begins_redirect r K ts h }

-- simple commands
begins_weave : (w : Expr) (f : List Expr → Expr) (s : List ℕ) (rs : List Redirect) → Begins w s → within s (s ++ redirect_begins) ≡ true → within redirect_begins (s ++ redirect_begins) ≡ true → (K : Lang What) (ts : List What) → Pat (weave w f (map redirect_pattern rs)) K ts → begins_with shell ts (s ++ redirect_begins) ≡ true
begins_weave w f s [] b i j K ts h = begins_wider s (s ++ redirect_begins) i ts (b.begins (Pat (f []) K) ts h)
begins_weave w f s (r ∷ rs) b i j K ts (inl h) = begins_wider s (s ++ redirect_begins) i ts (b.begins (Pat (f (map redirect_pattern (r ∷ rs))) K) ts h)
begins_weave w f s (r ∷ rs) b i j K ts (inr h) = begins_wider redirect_begins (s ++ redirect_begins) j ts (begins_redirect r (Pat (weave w f (map redirect_pattern rs)) K) ts h)

abbrev part_begins : List ℕ
part_begins = kinds (Assignment ∷ []) ++ (command_words ++ redirect_begins)

begins_parts : (a : List Assigned) (ws : List Word) (rs : List Redirect) (K : Lang What) (ts : List What) → Pat (some_parts (map assigned_pattern a ++ words_spelled (map word_spelling ws)) (map redirect_pattern rs)) K ts → begins_with shell ts part_begins ≡ true
begins_parts [] [] [] K ts h = absurd (let k = h.1 in cc)
begins_parts [] [] (r ∷ rs) K ts h = begins_wider redirect_begins part_begins refl ts (begins_redirect r (Pat (all (map redirect_pattern rs)) K) ts h)
begins_parts [] (w ∷ ws) rs K ts h = begins_wider (command_words ++ redirect_begins) part_begins refl ts (begins_weave (word_spelled command_words (word_spelling w)) (mixed (map any_word (map word_spelling ws))) command_words rs (begin_word command_words (word_spelling w)) refl refl K ts h)
begins_parts (a ∷ as') ws rs K ts h = begins_wider (kinds (Assignment ∷ []) ++ redirect_begins) part_begins refl ts (begins_weave (assigned_pattern a) (mixed (map assigned_pattern as' ++ words_spelled (map word_spelling ws))) (kinds (Assignment ∷ [])) rs (begin_assigned a) refl refl K ts h)

-- of these the reserved words are none
pub no_either : (a b : Bool) → a ≡ false → b ≡ false → (a || b) ≡ false
no_either true b e f = absurd cc
no_either false b e f = f

neither : (us : List What) → begins_with shell us part_begins ≡ true → Ends simple_begins us → Ends reserved_words us → ⊥
neither [] b i e = absurd cc
neither (t ∷ us) b i e =
    let k : is_among (class_of t) (simple_begins ++ reserved_words) ≡ true = begins_wider part_begins (simple_begins ++ reserved_words) refl (t ∷ us) b in
    let m = among-append (class_of t) simple_begins reserved_words in
    let n = no_either (is_among (class_of t) simple_begins) (is_among (class_of t) reserved_words) i e in
    cc

unreserved : (ts : List What) → begins_with shell ts part_begins ≡ true → Ends reserved_words ts → begins_with shell ts simple_begins ≡ true
unreserved ts b e = at (begins_with shell ts simple_begins) refl
  where
    at : (x : Bool) → begins_with shell ts simple_begins ≡ x → x ≡ true
    at true i = refl
    at false i = absurd (neither ts b i e)

pub begin_simple : (x : Simple) → Begins (simple_pattern x) simple_begins
begin_simple x = begin_as (simple_is x) (record { begins = λ K ts h. unreserved ts (begins_parts (out-Simple x).assigned.items (out-Simple x).words.items (out-Simple x).redirects.items (Pat (last words) K) ts h.1) h.0 })

-- compound commands, by what they are
pub data CompoundView (x : Compound) : Type 0 where
  subshell_view : (a : Script) → compound_pattern x ≡ (key LeftParen ⨾ block_of (script_pattern a) ⨾ key RightParen) → compound_shape x ≡ variant 0 (script_shape a) → CompoundView x
  group_view : (a : Script) → compound_pattern x ≡ (key LeftBrace ⨾ bare ⨾ block_of (script_pattern a) ⨾ reserved RightBrace) → compound_shape x ≡ variant 1 (script_shape a) → CompoundView x
  if_view : (a : If) → compound_pattern x ≡ if_pattern a → compound_shape x ≡ variant 2 (if_shape a) → CompoundView x
  loop_view : (a : Loop) → compound_pattern x ≡ loop_pattern a → compound_shape x ≡ variant 3 (loop_shape a) → CompoundView x
  for_view : (a : For) → compound_pattern x ≡ for_pattern a → compound_shape x ≡ variant 4 (for_shape a) → CompoundView x
  case_view : (a : Case) → compound_pattern x ≡ case_pattern a → compound_shape x ≡ variant 5 (case_shape a) → CompoundView x

pub compound_view : (x : Compound) → CompoundView x
compound_view x = at (compound_cases x)
  where
    at : Compound_case x → CompoundView x
    at (inl (a, e)) = subshell_view a (ap compound_pattern e ∙ compound_Subshell a) (ap compound_shape e ∙ compound_shape_Subshell a)
    at (inr (inl (a, e))) = group_view a (ap compound_pattern e ∙ compound_Group a) (ap compound_shape e ∙ compound_shape_Group a)
    at (inr (inr (inl (a, e)))) = if_view a (ap compound_pattern e ∙ compound_If a) (ap compound_shape e ∙ compound_shape_If a)
    at (inr (inr (inr (inl (a, e))))) = loop_view a (ap compound_pattern e ∙ compound_Loop a) (ap compound_shape e ∙ compound_shape_Loop a)
    at (inr (inr (inr (inr (inl (a, e)))))) = for_view a (ap compound_pattern e ∙ compound_For a) (ap compound_shape e ∙ compound_shape_For a)
    at (inr (inr (inr (inr (inr (a, e)))))) = case_view a (ap compound_pattern e ∙ compound_Case a) (ap compound_shape e ∙ compound_shape_Case a)

abbrev pub compound_classes : {x : Compound} → CompoundView x → List ℕ
compound_classes (subshell_view a e s) = kinds (LeftParen ∷ [])
compound_classes (group_view a e s) = kinds (LeftBrace ∷ [])
compound_classes (if_view a e s) = kinds (If_ ∷ [])
compound_classes (loop_view a e s) = kinds (While ∷ Until ∷ [])
compound_classes (for_view a e s) = kinds (For_ ∷ [])
compound_classes (case_view a e s) = kinds (Case_ ∷ [])

begin_loop_key : (u : Bool) (q : Expr) → Begins (key (cond u Until While) ⨾ q) (kinds (While ∷ Until ∷ []))
begin_loop_key true q = begin_then (begin_one (kinds (Until ∷ [])) (kinds (While ∷ Until ∷ [])) refl)
begin_loop_key false q = begin_then (begin_one (kinds (While ∷ [])) (kinds (While ∷ Until ∷ [])) refl)

pub begin_compound_view : {x : Compound} (v : CompoundView x) → Begins (compound_pattern x) (compound_classes v)
begin_compound_view (subshell_view a e s) = begin_as e (begin_then (begin_one (kinds (LeftParen ∷ [])) (kinds (LeftParen ∷ [])) refl))
begin_compound_view (group_view a e s) = begin_as e (begin_then (begin_one (kinds (LeftBrace ∷ [])) (kinds (LeftBrace ∷ [])) refl))
begin_compound_view (if_view a e s) = begin_as (e ∙ if_is a) (begin_then (begin_one (kinds (If_ ∷ [])) (kinds (If_ ∷ [])) refl))
begin_compound_view (loop_view a e s) = begin_as (e ∙ loop_is a) (begin_loop_key (out-Loop a).until _)
begin_compound_view (for_view a e s) = begin_as (e ∙ for_is a) (begin_then (begin_one (kinds (For_ ∷ [])) (kinds (For_ ∷ [])) refl))
begin_compound_view (case_view a e s) = begin_as (e ∙ case_is a) (begin_then (begin_one (kinds (Case_ ∷ [])) (kinds (Case_ ∷ [])) refl))

compound_within : {x : Compound} (v : CompoundView x) → within (compound_classes v) compound_begins ≡ true
compound_within (subshell_view a e s) = refl
compound_within (group_view a e s) = refl
compound_within (if_view a e s) = refl
compound_within (loop_view a e s) = refl
compound_within (for_view a e s) = refl
compound_within (case_view a e s) = refl

pub begin_compound : (x : Compound) → Begins (compound_pattern x) compound_begins
begin_compound x = begin_wider (compound_classes (compound_view x)) compound_begins (compound_within (compound_view x)) (begin_compound_view (compound_view x))

-- commands, by what they are
pub data CommandView (x : Command) : Type 0 where
  simple_view : (s : Simple) → command_pattern x ≡ simple_pattern s → command_shape x ≡ variant 0 (simple_shape s) → CommandView x
  with_redirects : (c : Compound) (rs : List Redirect) → command_pattern x ≡ (compound_pattern c ⨾ all (map redirect_pattern rs)) → command_shape x ≡ variant 1 (pair (compound_shape c) (row (map redirect_shape rs))) → CommandView x

pub command_view : (x : Command) → CommandView x
command_view x = at (command_cases x)
  where
    at : Command_case x → CommandView x
    at (inl (s, e)) = simple_view s (ap command_pattern e ∙ command_Simple s) (ap command_shape e ∙ command_shape_Simple s)
    at (inr (c, rs, e)) = with_redirects c rs.items (ap command_pattern e ∙ command_Compound c rs) (ap command_shape e ∙ command_shape_Compound c rs)

begin_command_view : {x : Command} → CommandView x → Begins (command_pattern x) command_begins
begin_command_view (simple_view s e i) = begin_as e (begin_wider simple_begins command_begins refl (begin_simple s))
begin_command_view (with_redirects c rs e i) = begin_as e (begin_then (begin_wider compound_begins command_begins refl (begin_compound c)))

pub begin_command : (x : Command) → Begins (command_pattern x) command_begins
begin_command x = begin_command_view (command_view x)

-- pipelines and lists
pub begin_staged : (cs : List Command) → Begins (staged (map command_pattern cs)) command_begins
begin_staged [] = record { begins = λ K ts h. absurd (let k = h.1 in cc) }
begin_staged (c ∷ cs) = begin_then (begin_command c)

begin_not : (b : Bool) (cs : List Command) → Begins (cond b (reserved Bang) empty ⨾ staged (map command_pattern cs)) pipeline_begins
begin_not true cs = begin_then (begin_then (begin_one (kinds (Bang ∷ [])) pipeline_begins refl))
begin_not false cs = record { begins = λ K ts h. begins_wider command_begins pipeline_begins refl ts (let b = begin_staged cs in b.begins K ts h) }

pub begin_pipeline : (x : Pipeline) → Begins (pipeline_pattern x) pipeline_begins
begin_pipeline x = begin_as (pipeline_is x) (begin_not (out-Pipeline x).not (out-Pipeline x).stages.items)

pub begin_and_or : (x : AndOr) → Begins (and_or_pattern x) pipeline_begins
begin_and_or x = begin_as (and_or_is x) (begin_then (begin_pipeline (out-AndOr x).first))

begin_list : (xs : List AndOr) → Begins (some_list (list_of (map and_or_pattern xs))) pipeline_begins
begin_list [] = record { begins = λ K ts h. absurd (let k = h.1 in cc) }
begin_list (x ∷ xs) = begin_then (begin_then (begin_and_or x))

pub begin_script : (x : Script) → Begins (script_pattern x) pipeline_begins
begin_script x = begin_as (ap some_list (script_is x)) (begin_list (out-Script x).list.items)

begin_joined_key : (b : Bool) (q : Expr) → Begins (key (cond b AndIf OrIf) ⨾ q) (kinds (AndIf ∷ OrIf ∷ []))
begin_joined_key true q = begin_then (begin_one (kinds (AndIf ∷ [])) (kinds (AndIf ∷ OrIf ∷ [])) refl)
begin_joined_key false q = begin_then (begin_one (kinds (OrIf ∷ [])) (kinds (AndIf ∷ OrIf ∷ [])) refl)

pub begin_joined : (x : Joined) → Begins (joined_pattern x) (kinds (AndIf ∷ OrIf ∷ []))
begin_joined x = begin_as (joined_is x) (begin_joined_key (out-Joined x).and _)

-- items of `case`
begin_patterns : (ps : List Spelling) → Begins (patterns_of ps) item_begins
begin_patterns [] = record { begins = λ K ts h. absurd (let k = h.1 in cc) }
begin_patterns (p ∷ ps) = begin_then (record { begins = at })
  where
    at : (K : Lang What) (ts : List What) → Pat (first_pattern_of p) K ts → begins_with shell ts item_begins ≡ true
    at K ts (inl h) = begins_wider (kinds (LeftParen ∷ [])) item_begins refl ts (begins_key (kinds (LeftParen ∷ [])) (Pat (any_word p) K) ts h)
    at K ts (inr h) = begins_wider words_but_esac item_begins refl ts (let b = begin_word words_but_esac p in b.begins K ts h)

pub begin_item : (x : Item) → Begins (item_pattern x) item_begins
begin_item x = begin_as (item_is x) (begin_then (begin_patterns (map word_spelling (out-Item x).patterns.items)))
