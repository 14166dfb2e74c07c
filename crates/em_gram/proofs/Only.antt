-- The tree that lexemes spell is the only one.
use Rattle.std.proofs.Common.{◌≡◌, inl, inr, ℕ, zero, suc, ◌+◌, ◌-◌, ◌<◌, ◌==◌, nat_le, Bool, true, false, cond, List, [], ◌∷◌, ◌++◌, length, map, Option, Some, None, refl, sym, ap, subst, ◌∙◌, arith}
use Rattle.std.specs.Option.{option_map}
use Rattle.std.proofs.lemmas.Bool.{eqb-true}
use Rattle.em_grammar.specs.Production.{empty, one, this, last, is_among, ◌⨾◌, Lang, Times}
use Rattle.em_grammar.specs.Checks.{apart, within}
use Rattle.em_grammar.specs.Gives.{begins_with, Spells, all}
use Rattle.em_grammar.proofs.Cutting.{cut}
use Rattle.em_grammar.proofs.Reading.{among-append}
use Rattle.em_lexeme.specs.declared.lexeme.Lexed.{Lexed}
use Rattle.em_gram.specs.Line.{IsScript}
use Rattle.em_lexeme.specs.declared.lexeme.What.{What}
use Rattle.em_token.specs.Kinds.{kinds, class_of, whats, words, words_but_esac, command_words, reserved_words, names}
use Rattle.em_token.specs.Shell.{shell, Expr, key, newlines, bare, reserved, sequential, item_end}
use Rattle.em_gram.specs.Nesting.{piece_pattern, piece_nesting}
use Rattle.em_syntax.specs.Nesting.{open_after}
use Rattle.em_gram.specs.Patterns.{digit_of, only_digit, if_closed, never, body_of, list_of, word_spelled, any_word, digit_spelled, operator_spelled, target_spelled, usual, redirect_spelled, words_spelled, mixed, some_parts, block_of, do_of, staged, else_of, branches_of, first_pattern_of, pattern_behind, patterns_of, items_of}
use Rattle.em_token.specs.Words.{bytes_spelled, name_spelled}
use Rattle.em_gram.specs.Patterns.{command_pattern, compound_pattern, and_or_pattern, assigned_pattern, branch_pattern, case_pattern, for_pattern, if_pattern, item_pattern, joined_pattern, loop_pattern, pipeline_pattern, redirect_pattern, script_pattern, body_pattern, simple_pattern, word_spelling, piece_spelling}
use Rattle.em_gram.specs.Same.{Shape, nothing, pair, bytes, flag, variant, row, optional}
use Rattle.em_gram.specs.Same.{command_shape, compound_shape, and_or_shape, assigned_shape, branch_shape, case_shape, for_shape, if_shape, item_shape, joined_shape, loop_shape, pipeline_shape, redirect_shape, script_shape, simple_shape, word_shape, piece_shape}
use Rattle.em_token.specs.declared.kind.Kind.TheVariants.{Assignment, Bang, If as If_, Then, Elif, Else, Fi, While, Until, Do, Done, For as For_, In, Case as Case_, Esac, LeftBrace, RightBrace, WordEnd, Bytes, Assigning, Value as Value_, ArgumentStart, ArgumentEnd, SubstitutionStart, SubstitutionEnd, Newline, Semicolon, CaseEnd, AndIf, OrIf, Pipe, LeftParen, RightParen, Number, Less, Great, DoubleGreat, GreatAnd}
use Rattle.em_syntax.specs.declared.tree.RedirectKind.{RedirectKind}
use Rattle.em_syntax.specs.declared.tree.Command.{Command}
use Rattle.em_syntax.specs.declared.tree.Compound.{Compound}
use Rattle.em_syntax.specs.declared.tree.AndOr.{AndOr, out-AndOr}
use Rattle.em_syntax.specs.declared.tree.Assigned.{Assigned, out-Assigned}
use Rattle.em_syntax.specs.declared.tree.Branch.{Branch, out-Branch}
use Rattle.em_syntax.specs.declared.tree.Case.{Case, out-Case}
use Rattle.em_syntax.specs.declared.tree.For.{For, out-For}
use Rattle.em_syntax.specs.declared.tree.If.{If, out-If}
use Rattle.em_syntax.specs.declared.tree.Item.{Item, out-Item}
use Rattle.em_syntax.specs.declared.tree.Joined.{Joined, out-Joined}
use Rattle.em_syntax.specs.declared.tree.Loop.{Loop, out-Loop}
use Rattle.em_syntax.specs.declared.tree.Pipeline.{Pipeline, out-Pipeline}
use Rattle.em_syntax.specs.declared.tree.Redirect.{Redirect, out-Redirect}
use Rattle.em_syntax.specs.declared.tree.Script.{Script, out-Script}
use Rattle.em_syntax.specs.declared.tree.Simple.{Simple, out-Simple}
use Rattle.em_syntax.specs.declared.tree.Word.{Word, out-Word}
use Rattle.em_syntax.specs.declared.tree.WordPiece.{WordPiece}
use Rattle.em_gram.proofs.Spellings.{and_or_is, assigned_is, branch_is, case_is, for_is, if_is, item_is, joined_is, loop_is, pipeline_is, redirect_is, script_is, simple_is, word_is}
use Rattle.em_gram.proofs.Shapes.{and_or_shape_is, assigned_shape_is, branch_shape_is, case_shape_is, for_shape_is, if_shape_is, item_shape_is, joined_shape_is, loop_shape_is, pipeline_shape_is, redirect_shape_is, script_shape_is, simple_shape_is, word_shape_is}
use Rattle.em_gram.proofs.Nested.{pieces_pattern}
use Rattle.em_gram.proofs.Choices.{words_map}
use Rattle.em_gram.proofs.Holding.{script_body}
use Rattle.em_gram.proofs.Starting.{Pat, redirect_begins, begins_key, begins_this, begins_wider, begins_redirect}
use Rattle.em_gram.proofs.Alike.{Ends, clash, over, Begins, Fits, Agree, begin_then, begin_as, fit, fit_empty, fit_then, fit_as, fit_none, agree_map, agree_as, agree_less, agree_before, agree_respelled, agree_one, agree_this, agree_then, agree_behind, agree_behind_this, agree_newlines, agree_apart, agree_empty, agree_left, agree_right, fixed_then, then_fixed, all_fit, agree_all, agree_row, agree_parted}
use Rattle.em_gram.proofs.Firsts.{piece_begins, simple_begins, compound_begins, command_begins, pipeline_begins, item_begins, PieceView, bytes_view, value_view, argument_view, end_view, output_view, piece_view, piece_classes, begin_view, begin_piece, begin_word, begin_assigned, begin_redirect, begin_simple, CompoundView, subshell_view, group_view, if_view, loop_view, for_view, case_view, compound_view, compound_classes, begin_compound_view, begin_compound, CommandView, simple_view, with_redirects, command_view, begin_command, begin_staged, begin_pipeline, begin_and_or, begin_script, begin_joined, begin_item, no_either}
use Rattle.em_gram.proofs.Turns.{after, before, Next, ends, word, redirect, next, First, ends_first, assigned, first_word, redirect_first, first}

-- what doesn't follow each part
abbrev stages_end : List ℕ
stages_end = kinds (Pipe ∷ []) ++ redirect_begins

abbrev and_or_end : List ℕ
and_or_end = kinds (AndIf ∷ OrIf ∷ []) ++ stages_end

abbrev pub list_end : List ℕ
list_end = kinds (Semicolon ∷ Newline ∷ []) ++ (and_or_end ++ pipeline_begins)

abbrev part_end : List ℕ
part_end = words ++ redirect_begins

abbrev branches_end : List ℕ
branches_end = kinds (Elif ∷ []) ++ list_end

abbrev other_end : List ℕ
other_end = kinds (Else ∷ []) ++ list_end

abbrev items_end : List ℕ
items_end = kinds (CaseEnd ∷ []) ++ (item_begins ++ list_end)

-- fixed parts
agree_key : {n : ℕ} (k : List ℕ) → Agree n (one k) (one k) [] (Unit {0})
agree_key k = agree_one k k

agree_bare : {n : ℕ} → Agree n bare bare [] (Unit {0})
agree_bare = fixed_then (agree_key (kinds (Bytes ∷ []))) (agree_key (kinds (WordEnd ∷ [])))

agree_reserved : {n : ℕ} (k : List ℕ) → Agree n (one k ⨾ bare) (one k ⨾ bare) [] (Unit {0})
agree_reserved k = fixed_then (agree_key k) agree_bare

begin_kind : (s : List ℕ) → Begins (one s) s
begin_kind s = record { begins = λ K ts h. begins_key s K ts h }

-- a digit
some_of : (m k : ℕ) → Some m ≡ Some k → m ≡ k
some_of m k e = ap (or_else m) e
  where
    or_else : ℕ → Option ℕ → ℕ
    or_else d None = d
    or_else d (Some x) = x

digit_byte : (d m : ℕ) → cond (nat_le 48 d) (Some (d - 48)) None ≡ Some m → d ≡ 48 + m
digit_byte d m e = at (nat_le 48 d) refl e
  where
    at : (b : Bool) → nat_le 48 d ≡ b → cond b (Some (d - 48)) None ≡ Some m → d ≡ 48 + m
    at true i k = let j : d - 48 ≡ m = some_of (d - 48) m k in grind (arith, i, j)
    at false i k = absurd cc

abbrev digit_shape : ℕ → Shape
digit_shape m = pair (flag false) (variant 0 (bytes ((48 + m) ∷ [])))

digit_text : (q : Bool) (t : List ℕ) (m : ℕ) → digit_of q t ≡ Some m → pair (flag q) (variant 0 (bytes t)) ≡ digit_shape m
digit_text true t m e = absurd cc
digit_text false [] m e = absurd cc
digit_text false (d ∷ []) m e = rw (digit_byte d m e) refl
digit_text false (d ∷ c ∷ t) m e = absurd cc

digit_piece : (p : WordPiece) (m : ℕ) → (piece_spelling p).digit ≡ Some m → piece_shape p ≡ digit_shape m
digit_piece p m e = at (piece_view p)
  where
    at : PieceView p → piece_shape p ≡ digit_shape m
    at (bytes_view q t i s d) = s ∙ digit_text q t m (sym d ∙ e)
    at (value_view q n f i s d) = absurd cc
    at (argument_view q n f i s d) = absurd cc
    at (end_view q i s d) = absurd cc
    at (output_view q c i s d) = absurd cc

digit_pieces : (ps : List WordPiece) (m : ℕ) → only_digit (map piece_spelling ps) ≡ Some m → row (map piece_shape ps) ≡ row (digit_shape m ∷ [])
digit_pieces [] m e = absurd cc
digit_pieces (p ∷ []) m e = ap (λ z. pair z nothing) (digit_piece p m e)
digit_pieces (p ∷ q ∷ ps) m e = absurd cc

digit_word : (w : Word) (m : ℕ) → (word_spelling w).digit ≡ Some m → word_shape w ≡ row (digit_shape m ∷ [])
digit_word w m e = word_shape_is w ∙ digit_pieces (out-Word w).pieces.items m (sym (ap (λ z. z.digit) (word_is w)) ∙ e)

number_same : (m k : ℕ) → What.Number m ≡ What.Number k → m ≡ k
number_same m k e = cc

agree_digit : {n : ℕ} (d e : Option ℕ) → Agree n (digit_spelled d) (digit_spelled e) [] ((m : ℕ) × (d ≡ Some m) × (e ≡ Some m))
agree_digit None e = record { agrees = λ ts r s l h g i j. absurd (let k = h.1 in cc) }
agree_digit (Some m) None = record { agrees = λ ts r s l h g i j. absurd (let k = g.1 in cc) }
agree_digit (Some m) (Some k) = agree_map (λ i. (m, refl, ap (λ z. Some z) (sym (number_same m k i)))) (agree_this (kinds (Number ∷ [])) (kinds (Number ∷ [])) (What.Number m) (What.Number k))

-- bytes of a name
bytes_same : (q p : Bool) (a b : List ℕ) → What.Bytes q a ≡ What.Bytes p b → a ≡ b
bytes_same q p a b e = cc

agree_bytes : {n : ℕ} (a b : List ℕ) → Agree n (bytes_spelled a) (bytes_spelled b) [] (a ≡ b)
agree_bytes {n = n} a b = record { agrees = at }
  where
    by : (q p : Bool) (ts r s : List What) → Spells shell (this (kinds (Bytes ∷ [])) (What.Bytes q a)) ts r → Spells shell (this (kinds (Bytes ∷ [])) (What.Bytes p b)) ts s → (a ≡ b) × (r ≡ s)
    by q p [] r s h g = absurd h
    by q p (t ∷ ts) r s h g = (bytes_same q p a b (sym h.0.1 ∙ g.0.1), sym h.1 ∙ g.1)

    at : (ts r s : List What) → length ts < n → Spells shell (bytes_spelled a) ts r → Spells shell (bytes_spelled b) ts s → Ends [] r → Ends [] s → (a ≡ b) × (r ≡ s)
    at ts r s l (inl h) (inl g) e f = by false false ts r s h g
    at ts r s l (inl h) (inr g) e f = by false true ts r s h g
    at ts r s l (inr h) (inl g) e f = by true false ts r s h g
    at ts r s l (inr h) (inr g) e f = by true true ts r s h g

agree_name : {n : ℕ} (a b : List ℕ) → Agree n (name_spelled a) (name_spelled b) [] (a ≡ b)
agree_name a b = fixed_then (agree_key names) (then_fixed (agree_bytes a b) (agree_key (kinds (WordEnd ∷ []))) fit_none)

snoc_same : (xs ys : List ℕ) (c : ℕ) → xs ++ c ∷ [] ≡ ys ++ c ∷ [] → xs ≡ ys
snoc_same [] [] c e = refl
snoc_same [] (y ∷ []) c e = absurd cc
snoc_same [] (y ∷ z ∷ ys) c e = absurd cc
snoc_same (x ∷ []) [] c e = absurd cc
snoc_same (x ∷ z ∷ xs) [] c e = absurd cc
snoc_same (x ∷ xs) (y ∷ ys) c e =
    let h : x ≡ y = cc in
    let t : xs ++ c ∷ [] ≡ ys ++ c ∷ [] = cc in
    let k = snoc_same xs ys c t in
    cc

-- redirections
abbrev operator_kinds : RedirectKind → List ℕ
operator_kinds RedirectKind.Write = kinds (Great ∷ [])
operator_kinds RedirectKind.Append = kinds (DoubleGreat ∷ [])
operator_kinds RedirectKind.Read = kinds (Less ∷ [])
operator_kinds RedirectKind.Duplicate = kinds (GreatAnd ∷ [])

operator_is : (k : RedirectKind) → operator_spelled k ≡ one (operator_kinds k)
operator_is RedirectKind.Write = refl
operator_is RedirectKind.Append = refl
operator_is RedirectKind.Read = refl
operator_is RedirectKind.Duplicate = refl

same_kind : (k j : RedirectKind) (ts : List What) → begins_with shell ts (operator_kinds k) ≡ true → begins_with shell ts (operator_kinds j) ≡ true → k ≡ j
same_kind RedirectKind.Write RedirectKind.Write ts b c = refl
same_kind RedirectKind.Append RedirectKind.Append ts b c = refl
same_kind RedirectKind.Read RedirectKind.Read ts b c = refl
same_kind RedirectKind.Duplicate RedirectKind.Duplicate ts b c = refl
same_kind k j ts b c = absurd (clash (operator_kinds k) (operator_kinds j) refl ts b c)

operator_begins : (k : RedirectKind) (K : Lang What) (ts : List What) → Pat (operator_spelled k) K ts → begins_with shell ts (operator_kinds k) ≡ true
operator_begins k K ts h = begins_key (operator_kinds k) K ts (rw (operator_is k) at h)

plain_operator : (k : RedirectKind) (K : Lang What) (ts : List What) → Pat (operator_spelled k) K ts → begins_with shell ts (kinds (Less ∷ Great ∷ DoubleGreat ∷ GreatAnd ∷ [])) ≡ true
plain_operator RedirectKind.Write K ts h = begins_wider (kinds (Great ∷ [])) _ refl ts (begins_key _ K ts h)
plain_operator RedirectKind.Append K ts h = begins_wider (kinds (DoubleGreat ∷ [])) _ refl ts (begins_key _ K ts h)
plain_operator RedirectKind.Read K ts h = begins_wider (kinds (Less ∷ [])) _ refl ts (begins_key _ K ts h)
plain_operator RedirectKind.Duplicate K ts h = begins_wider (kinds (GreatAnd ∷ [])) _ refl ts (begins_key _ K ts h)

-- what begins in more than one way
begin_empty : {p : Expr} {s : List ℕ} → Begins p s → Begins (empty ⨾ p) s
begin_empty b = record { begins = λ K ts h. b.begins K ts h }

block_begins : (s : Script) (K : Lang What) (ts : List What) (m : ℕ) → Times m (Pat (key Newline)) (Pat (script_pattern s) K) ts → begins_with shell ts (kinds (Newline ∷ []) ++ pipeline_begins) ≡ true
block_begins s K ts zero h = begins_wider pipeline_begins (kinds (Newline ∷ []) ++ pipeline_begins) refl ts (let b = begin_script s in b.begins K ts h)
block_begins s K ts (suc m) h = begins_wider (kinds (Newline ∷ [])) (kinds (Newline ∷ []) ++ pipeline_begins) refl ts (begins_key (kinds (Newline ∷ [])) (Times m (Pat (key Newline)) (Pat (script_pattern s) K)) ts h)

begin_block : (s : Script) → Begins (block_of (script_pattern s)) (kinds (Newline ∷ []) ++ pipeline_begins)
begin_block s = record { begins = λ K ts h. block_begins s K ts h.0 h.1 }

assigned_at : (a : Assigned) (K : Lang What) (ts : List What) → Pat (assigned_pattern a) K ts → begins_with shell ts (kinds (Assignment ∷ [])) ≡ true
assigned_at a K ts h = let b = begin_assigned a in b.begins K ts h

ends_both : (s u : List ℕ) (ts : List What) → Ends s ts → Ends u ts → Ends (s ++ u) ts
ends_both s u [] a b = refl
ends_both s u (t ∷ ts) a b = among-append (class_of t) s u ∙ no_either (is_among (class_of t) s) (is_among (class_of t) u) a b

parts_mixed : (ps rs : List Expr) (ts r : List What) → Spells shell (some_parts ps rs) ts r → Spells shell (mixed ps rs) ts r
parts_mixed [] [] ts r h = absurd (let i = h.1 in cc)
parts_mixed [] (q ∷ rs) ts r h = h
parts_mixed (p ∷ ps) rs ts r h = h

do_fit : (s : Script) → Fits (do_of (script_pattern s)) [] list_end
do_fit s = fit refl (begin_then (begin_then (begin_kind (kinds (Do ∷ [])))))

behind_map : (ws : List Word) → map pattern_behind (map word_spelling ws) ≡ map (λ w. pattern_behind (word_spelling w)) ws
behind_map [] = refl
behind_map (w ∷ ws) = ap (λ l. pattern_behind (word_spelling w) ∷ l) (behind_map ws)

-- what may stand in front of a body
listing_fit : (xs : List AndOr) (F : List ℕ) → within F list_end ≡ true → apart F pipeline_begins ≡ true → Fits (body_of (list_of (map and_or_pattern xs))) list_end F
listing_fit [] F w a = fit_empty w
listing_fit (x ∷ xs) F w a = fit a (begin_then (begin_then (begin_and_or x)))

body_fits : (s : Script) → Fits (body_pattern s) list_end (kinds (Newline ∷ []))
body_fits s = fit_as (ap body_of (script_is s)) (listing_fit (out-Script s).list.items (kinds (Newline ∷ [])) refl refl)

body_fit : (s : Script) → Fits (body_pattern s ⨾ key SubstitutionEnd) [] (kinds (Newline ∷ []))
body_fit s = fit_then (body_fits s) (fit refl (begin_kind (kinds (SubstitutionEnd ∷ []))))

-- the parts of a tree, where scripts and words in fewer lexemes are the only ones
module _ (n : ℕ) (H : (s t : Script) → Agree n (body_pattern s) (body_pattern t) list_end (script_shape s ≡ script_shape t)) where
  -- pieces
  agree_end : (q p : Bool) → Agree (suc n) (cond q never (key ArgumentEnd)) (cond p never (key ArgumentEnd)) [] (q ≡ p)
  agree_end true p = record { agrees = λ ts r s l h g e f. absurd (let k = h.1 in cc) }
  agree_end false true = record { agrees = λ ts r s l h g e f. absurd (let k = g.1 in cc) }
  agree_end false false = agree_map (λ i. refl) (agree_key (kinds (ArgumentEnd ∷ [])))

  agree_views : {x y : WordPiece} → PieceView x → PieceView y → Agree (suc n) (piece_pattern x) (piece_pattern y) [] (piece_shape x ≡ piece_shape y)
  agree_views (bytes_view q t e s d) (bytes_view p u f z c) =
      agree_as e f (agree_map (λ i. cc) (agree_this (kinds (Bytes ∷ Assigning ∷ [])) (kinds (Bytes ∷ Assigning ∷ [])) (What.Bytes q t) (What.Bytes p u)))
  agree_views (value_view q a b e s d) (value_view p v w f z c) =
      agree_as e f (agree_map (λ i. cc) (agree_this (kinds (Value_ ∷ [])) (kinds (Value_ ∷ [])) (What.Value q a b) (What.Value p v w)))
  agree_views (argument_view q a b e s d) (argument_view p v w f z c) =
      agree_as e f (agree_map (λ i. cc) (agree_this (kinds (ArgumentStart ∷ [])) (kinds (ArgumentStart ∷ [])) (What.ArgumentStart q a b) (What.ArgumentStart p v w)))
  agree_views (end_view q e s d) (end_view p f z c) = agree_as e f (agree_map (λ i. cc) (agree_end q p))
  agree_views (output_view q a e s d) (output_view p b f z c) =
      agree_as e f (agree_map (λ i. let j = i.0 in let k = i.1 in cc) (agree_behind_this (kinds (SubstitutionStart ∷ [])) (kinds (SubstitutionStart ∷ [])) (What.SubstitutionStart q) (What.SubstitutionStart p)
      (λ i. agree_map (λ j. j.1) (agree_then agree_newlines (λ j. then_fixed (H a b) (agree_key (kinds (SubstitutionEnd ∷ []))) (fit refl (begin_kind (kinds (SubstitutionEnd ∷ []))))) (body_fit a) (body_fit b)))))
  agree_views v w = agree_apart (piece_classes v) (piece_classes w) (begin_view v) (begin_view w) refl

  agree_piece : (x y : WordPiece) → Agree (suc n) (piece_pattern x) (piece_pattern y) [] (piece_shape x ≡ piece_shape y)
  agree_piece x y = agree_views (piece_view x) (piece_view y)

  -- words: what isn't closed is spelled by nothing
  agree_closed : (a b : Option ℕ) {p q : Expr} {A : Type 0} → Agree (suc n) p q piece_begins A → Agree (suc n) (if_closed a p) (if_closed b q) piece_begins A
  agree_closed None b k = record { agrees = λ ts r s l h g e f. absurd (let m = h.1 in cc) }
  agree_closed (Some (suc a)) b k = record { agrees = λ ts r s l h g e f. absurd (let m = h.1 in cc) }
  agree_closed (Some zero) None k = record { agrees = λ ts r s l h g e f. absurd (let m = g.1 in cc) }
  agree_closed (Some zero) (Some (suc b)) k = record { agrees = λ ts r s l h g e f. absurd (let m = g.1 in cc) }
  agree_closed (Some zero) (Some zero) k = k

  word_pattern_is : (w : Word) → (word_spelling w).pattern ≡ if_closed (open_after 0 (map piece_nesting (out-Word w).pieces.items)) (all (map piece_pattern (out-Word w).pieces.items))
  word_pattern_is w = ap (λ s. s.pattern) (word_is w) ∙ pieces_pattern (out-Word w).pieces.items

  agree_pieces : (v w : Word) → Agree (suc n) (word_spelling v).pattern (word_spelling w).pattern piece_begins (word_shape v ≡ word_shape w)
  agree_pieces v w =
      agree_as (word_pattern_is v) (word_pattern_is w) (agree_map (λ i. word_shape_is v ∙ i ∙ sym (word_shape_is w))
      (agree_closed (open_after 0 (map piece_nesting (out-Word v).pieces.items)) (open_after 0 (map piece_nesting (out-Word w).pieces.items))
      (agree_all piece_pattern piece_shape piece_begins [] piece_begins begin_piece refl refl refl (suc n) agree_piece (out-Word v).pieces.items (out-Word w).pieces.items)))

  agree_ended : (v w : Word) → Agree (suc n) ((word_spelling v).pattern ⨾ key WordEnd) ((word_spelling w).pattern ⨾ key WordEnd) [] (word_shape v ≡ word_shape w)
  agree_ended v w = then_fixed (agree_pieces v w) (agree_key (kinds (WordEnd ∷ []))) (fit refl (begin_kind (kinds (WordEnd ∷ []))))

  agree_word : (b c : List ℕ) (v w : Word) → Agree (suc n) (word_spelled b (word_spelling v)) (word_spelled c (word_spelling w)) [] (word_shape v ≡ word_shape w)
  agree_word b c v w = agree_map (λ i. i.1) (agree_then (agree_one b c) (λ i. agree_ended v w) fit_none fit_none)

  -- redirections
  agree_target_of : (k : RedirectKind) (v w : Word) → Agree (suc n) (target_spelled k (word_spelling v)) (target_spelled k (word_spelling w)) [] (word_shape v ≡ word_shape w)
  agree_target_of RedirectKind.Write v w = fixed_then (agree_key (kinds (Great ∷ []))) (agree_word words words v w)
  agree_target_of RedirectKind.Append v w = fixed_then (agree_key (kinds (DoubleGreat ∷ []))) (agree_word words words v w)
  agree_target_of RedirectKind.Read v w = fixed_then (agree_key (kinds (Less ∷ []))) (agree_word words words v w)
  agree_target_of RedirectKind.Duplicate v w = fixed_then (agree_key (kinds (GreatAnd ∷ []))) (agree_map (λ i. digit_word v i.0 i.1 ∙ sym (digit_word w i.0 i.2)) (agree_digit (word_spelling v).digit (word_spelling w).digit))

  agree_target : (k j : RedirectKind) (v w : Word) → Agree (suc n) (target_spelled k (word_spelling v)) (target_spelled j (word_spelling w)) [] ((k ≡ j) × (word_shape v ≡ word_shape w))
  agree_target k j v w = record { agrees = at }
    where
      at : (ts r s : List What) → length ts < suc n → Spells shell (target_spelled k (word_spelling v)) ts r → Spells shell (target_spelled j (word_spelling w)) ts s → Ends [] r → Ends [] s → ((k ≡ j) × (word_shape v ≡ word_shape w)) × (r ≡ s)
      at ts r s l h g e f =
          let i : k ≡ j = same_kind k j ts (operator_begins k _ ts h) (operator_begins j _ ts g) in
          let a : Agree (suc n) (target_spelled k (word_spelling v)) (target_spelled k (word_spelling w)) [] (word_shape v ≡ word_shape w) = agree_target_of k v w in
          let x = a.agrees ts r s l h (rw i g) e f in
          ((i, x.0), x.1)

  abbrev Target : RedirectKind → Word → Expr
  Target k v = target_spelled k (word_spelling v)

  -- the number in front, or none
  usual_is : (b : Bool) (fd : ℕ) (k : RedirectKind) (p : Expr) (ts r : List What) → (fd == usual k) ≡ b → Pat (cond b empty never) (Pat p (λ us. us ≡ r)) ts → (fd ≡ usual k) × Spells shell p ts r
  usual_is true fd k p ts r i h = (eqb-true fd (usual k) i, h)
  usual_is false fd k p ts r i h = absurd (let m = h.1 in cc)

  agree_numbered : (k j : RedirectKind) (fd gd : ℕ) (v w : Word) → Agree (suc n) (redirect_spelled k fd (word_spelling v)) (redirect_spelled j gd (word_spelling w)) [] ((fd ≡ gd) × ((k ≡ j) × (word_shape v ≡ word_shape w)))
  agree_numbered k j fd gd v w = record { agrees = at }
    where
      at : (ts r s : List What) → length ts < suc n → Spells shell (redirect_spelled k fd (word_spelling v)) ts r → Spells shell (redirect_spelled j gd (word_spelling w)) ts s → Ends [] r → Ends [] s → ((fd ≡ gd) × ((k ≡ j) × (word_shape v ≡ word_shape w))) × (r ≡ s)
      at ts r s l (inl h) (inl g) e f =
          let a : Agree (suc n) (this (kinds (Number ∷ [])) (What.Number fd) ⨾ Target k v) (this (kinds (Number ∷ [])) (What.Number gd) ⨾ Target j w) [] ((What.Number fd ≡ What.Number gd) × ((k ≡ j) × (word_shape v ≡ word_shape w))) =
          agree_then (agree_this (kinds (Number ∷ [])) (kinds (Number ∷ [])) (What.Number fd) (What.Number gd)) (λ i. agree_target k j v w) fit_none fit_none in
          let x = a.agrees ts r s l h g e f in
          ((number_same fd gd x.0.0, x.0.1), x.1)
      at ts r s l (inl h) (inr g) e f =
          absurd (let u = usual_is (gd == usual j) gd j (Target j w) ts s refl g in
          clash (kinds (Number ∷ [])) (kinds (Less ∷ Great ∷ DoubleGreat ∷ GreatAnd ∷ [])) refl ts (begins_this (kinds (Number ∷ [])) (What.Number fd) _ ts h) (plain_operator j _ ts u.1))
      at ts r s l (inr h) (inl g) e f =
          absurd (let u = usual_is (fd == usual k) fd k (Target k v) ts r refl h in
          clash (kinds (Number ∷ [])) (kinds (Less ∷ Great ∷ DoubleGreat ∷ GreatAnd ∷ [])) refl ts (begins_this (kinds (Number ∷ [])) (What.Number gd) _ ts g) (plain_operator k _ ts u.1))
      at ts r s l (inr h) (inr g) e f =
          let u = usual_is (fd == usual k) fd k (Target k v) ts r refl h in
          let z = usual_is (gd == usual j) gd j (Target j w) ts s refl g in
          let a : Agree (suc n) (Target k v) (Target j w) [] ((k ≡ j) × (word_shape v ≡ word_shape w)) = agree_target k j v w in
          let x = a.agrees ts r s l u.1 z.1 e f in
          ((u.0 ∙ ap usual x.0.0 ∙ sym z.0, x.0), x.1)

  redirect_shape_by : (x y : Redirect) → ((out-Redirect x).fd ≡ (out-Redirect y).fd) × (((out-Redirect x).kind ≡ (out-Redirect y).kind) × (word_shape (out-Redirect x).target ≡ word_shape (out-Redirect y).target)) → redirect_shape x ≡ redirect_shape y
  redirect_shape_by x y i = redirect_shape_is x ∙ (rw (i.0, i.1.0, i.1.1) refl) ∙ sym (redirect_shape_is y)

  agree_redirect : (x y : Redirect) → Agree (suc n) (redirect_pattern x) (redirect_pattern y) [] (redirect_shape x ≡ redirect_shape y)
  agree_redirect x y =
      agree_as (redirect_is x) (redirect_is y) (agree_map (redirect_shape_by x y)
      (agree_numbered (out-Redirect x).kind (out-Redirect y).kind (out-Redirect x).fd (out-Redirect y).fd (out-Redirect x).target (out-Redirect y).target))

  agree_redirects : (xs ys : List Redirect) → Agree (suc n) (all (map redirect_pattern xs)) (all (map redirect_pattern ys)) redirect_begins (row (map redirect_shape xs) ≡ row (map redirect_shape ys))
  agree_redirects xs ys = agree_all redirect_pattern redirect_shape redirect_begins [] redirect_begins begin_redirect refl refl refl (suc n) agree_redirect xs ys

  -- assignments
  agree_assigned : (x y : Assigned) → Agree (suc n) (assigned_pattern x) (assigned_pattern y) [] (assigned_shape x ≡ assigned_shape y)
  agree_assigned x y =
      let a = out-Assigned x in
      let b = out-Assigned y in
      agree_as (assigned_is x) (assigned_is y) (agree_map (λ i. assigned_by i.0 i.1)
      (fixed_then (agree_key (kinds (Assignment ∷ [])))
      (agree_then (agree_this (kinds (Assigning ∷ [])) (kinds (Assigning ∷ [])) (What.Bytes false (a.name ++ 61 ∷ [])) (What.Bytes false (b.name ++ 61 ∷ []))) (λ i. agree_ended a.value b.value) fit_none fit_none)))
    where
      assigned_by : What.Bytes false ((out-Assigned x).name ++ 61 ∷ []) ≡ What.Bytes false ((out-Assigned y).name ++ 61 ∷ []) → word_shape (out-Assigned x).value ≡ word_shape (out-Assigned y).value → assigned_shape x ≡ assigned_shape y
      assigned_by i j =
          let k = snoc_same (out-Assigned x).name (out-Assigned y).name 61 (bytes_same false false _ _ i) in
          assigned_shape_is x ∙ (rw (k, j) refl) ∙ sym (assigned_shape_is y)

  -- simple commands
  abbrev SameAfter : List Word → List Redirect → List Word → List Redirect → Type 0
  SameAfter ws rs vs qs = (row (map word_shape ws) ≡ row (map word_shape vs)) × (row (map redirect_shape rs) ≡ row (map redirect_shape qs))

  abbrev AfterUpTo : ℕ → Type 0
  AfterUpTo m = (ws : List Word) (rs : List Redirect) (vs : List Word) (qs : List Redirect) → length ws + length rs < m → Agree (suc n) (after ws rs) (after vs qs) part_end (SameAfter ws rs vs qs)

  after_step : (m : ℕ) → AfterUpTo m → (ws : List Word) (rs : List Redirect) (vs : List Word) (qs : List Redirect) → length ws + length rs < suc m → (ts r s : List What) → length ts < suc n → Ends part_end r → Ends part_end s → Next ws rs ts r → Next vs qs ts s → SameAfter ws rs vs qs × (r ≡ s)
  after_step m k ws rs vs qs l ts r s o e f (ends a b c) (ends a' b' c') = ((rw (a, a') refl, rw (b, b') refl), sym c ∙ c')
  after_step m k ws rs vs qs l ts r s o e f (ends a b c) (word w us i g) = absurd (over words part_end refl ts (begins_key words _ ts g) (rw c e))
  after_step m k ws rs vs qs l ts r s o e f (ends a b c) (redirect q us i g) = absurd (over redirect_begins part_end refl ts (begins_redirect q _ ts g) (rw c e))
  after_step m k ws rs vs qs l ts r s o e f (word w us i h) (ends a b c) = absurd (over words part_end refl ts (begins_key words _ ts h) (rw c f))
  after_step m k ws rs vs qs l ts r s o e f (redirect q us i h) (ends a b c) = absurd (over redirect_begins part_end refl ts (begins_redirect q _ ts h) (rw c f))
  after_step m k ws rs vs qs l ts r s o e f (word w us i h) (redirect q ps j g) = absurd (clash words redirect_begins refl ts (begins_key words _ ts h) (begins_redirect q _ ts g))
  after_step m k ws rs vs qs l ts r s o e f (redirect q ps j h) (word w us i g) = absurd (clash words redirect_begins refl ts (begins_key words _ ts g) (begins_redirect q _ ts h))
  after_step m k ws rs vs qs l ts r s o e f (word w us i h) (word v xs j g) =
      let z : length ws ≡ suc (length us) = ap length i in
      let a : Agree (suc n) (any_word (word_spelling w) ⨾ after us rs) (any_word (word_spelling v) ⨾ after xs qs) part_end ((word_shape w ≡ word_shape v) × SameAfter us rs xs qs) =
      agree_then (agree_word words words w v) (λ u. k us rs xs qs (omega (arith, l, z))) fit_none fit_none in
      let x = a.agrees ts r s o h g e f in
      ((rw (i, j, x.0.0, x.0.1.0) refl, x.0.1.1), x.1)
  after_step m k ws rs vs qs l ts r s o e f (redirect q ps i h) (redirect u us j g) =
      let z : length rs ≡ suc (length ps) = ap length i in
      let a : Agree (suc n) (redirect_pattern q ⨾ after ws ps) (redirect_pattern u ⨾ after vs us) part_end ((redirect_shape q ≡ redirect_shape u) × SameAfter ws ps vs us) =
      agree_then (agree_redirect q u) (λ y. k ws ps vs us (omega (arith, l, z))) fit_none fit_none in
      let x = a.agrees ts r s o h g e f in
      ((x.0.1.0, rw (i, j, x.0.0, x.0.1.1) refl), x.1)

  agree_after : (m : ℕ) → AfterUpTo m
  agree_after zero ws rs vs qs l = absurd (omega (arith, l))
  agree_after (suc m) ws rs vs qs l = record { agrees = λ ts r s o h g e f. after_step m (agree_after m) ws rs vs qs l ts r s o e f (next ws rs ts r h) (next vs qs ts s g) }

  abbrev SameParts : List Assigned → List Word → List Redirect → List Assigned → List Word → List Redirect → Type 0
  SameParts as' ws rs bs vs qs = (row (map assigned_shape as') ≡ row (map assigned_shape bs)) × SameAfter ws rs vs qs

  abbrev BeforeUpTo : ℕ → Type 0
  BeforeUpTo m = (as' : List Assigned) (ws : List Word) (rs : List Redirect) (bs : List Assigned) (vs : List Word) (qs : List Redirect) → length as' + length rs < m → Agree (suc n) (before as' ws rs) (before bs vs qs) part_end (SameParts as' ws rs bs vs qs)

  before_step : (m : ℕ) → BeforeUpTo m → (as' : List Assigned) (ws : List Word) (rs : List Redirect) (bs : List Assigned) (vs : List Word) (qs : List Redirect) → length as' + length rs < suc m → (ts r s : List What) → length ts < suc n → Ends part_end r → Ends part_end s →
      First as' ws rs ts r → First bs vs qs ts s → SameParts as' ws rs bs vs qs × (r ≡ s)
  before_step m k as' ws rs bs vs qs l ts r s o e f (ends_first p a b c) (ends_first p' a' b' c') = ((rw (p, p') refl, (rw (a, a') refl, rw (b, b') refl)), sym c ∙ c')
  before_step m k as' ws rs bs vs qs l ts r s o e f (ends_first p a b c) (assigned d ds i g) = absurd (over (kinds (Assignment ∷ [])) part_end refl ts (assigned_at d _ ts g) (rw c e))
  before_step m k as' ws rs bs vs qs l ts r s o e f (ends_first p a b c) (first_word w us j i g) = absurd (over command_words part_end refl ts (begins_key command_words _ ts g) (rw c e))
  before_step m k as' ws rs bs vs qs l ts r s o e f (ends_first p a b c) (redirect_first q us i g) = absurd (over redirect_begins part_end refl ts (begins_redirect q _ ts g) (rw c e))
  before_step m k as' ws rs bs vs qs l ts r s o e f (assigned d ds i h) (ends_first p a b c) = absurd (over (kinds (Assignment ∷ [])) part_end refl ts (assigned_at d _ ts h) (rw c f))
  before_step m k as' ws rs bs vs qs l ts r s o e f (first_word w us j i h) (ends_first p a b c) = absurd (over command_words part_end refl ts (begins_key command_words _ ts h) (rw c f))
  before_step m k as' ws rs bs vs qs l ts r s o e f (redirect_first q us i h) (ends_first p a b c) = absurd (over redirect_begins part_end refl ts (begins_redirect q _ ts h) (rw c f))
  before_step m k as' ws rs bs vs qs l ts r s o e f (assigned d ds i h) (first_word w us j z g) = absurd (clash (kinds (Assignment ∷ [])) command_words refl ts (assigned_at d _ ts h) (begins_key command_words _ ts g))
  before_step m k as' ws rs bs vs qs l ts r s o e f (assigned d ds i h) (redirect_first q us j g) = absurd (clash (kinds (Assignment ∷ [])) redirect_begins refl ts (assigned_at d _ ts h) (begins_redirect q _ ts g))
  before_step m k as' ws rs bs vs qs l ts r s o e f (first_word w us j z h) (assigned d ds i g) = absurd (clash (kinds (Assignment ∷ [])) command_words refl ts (assigned_at d _ ts g) (begins_key command_words _ ts h))
  before_step m k as' ws rs bs vs qs l ts r s o e f (first_word w us j z h) (redirect_first q ps i g) = absurd (clash command_words redirect_begins refl ts (begins_key command_words _ ts h) (begins_redirect q _ ts g))
  before_step m k as' ws rs bs vs qs l ts r s o e f (redirect_first q us j h) (assigned d ds i g) = absurd (clash (kinds (Assignment ∷ [])) redirect_begins refl ts (assigned_at d _ ts g) (begins_redirect q _ ts h))
  before_step m k as' ws rs bs vs qs l ts r s o e f (redirect_first q ps i h) (first_word w us j z g) = absurd (clash command_words redirect_begins refl ts (begins_key command_words _ ts g) (begins_redirect q _ ts h))
  before_step m k as' ws rs bs vs qs l ts r s o e f (assigned d ds i h) (assigned c cs j g) =
      let z : length as' ≡ suc (length ds) = ap length i in
      let a : Agree (suc n) (assigned_pattern d ⨾ before ds ws rs) (assigned_pattern c ⨾ before cs vs qs) part_end ((assigned_shape d ≡ assigned_shape c) × SameParts ds ws rs cs vs qs) =
      agree_then (agree_assigned d c) (λ u. k ds ws rs cs vs qs (omega (arith, l, z))) fit_none fit_none in
      let x = a.agrees ts r s o h g e f in
      ((rw (i, j, x.0.0, x.0.1.0) refl, x.0.1.1), x.1)
  before_step m k as' ws rs bs vs qs l ts r s o e f (first_word w us p i h) (first_word v xs q j g) =
      let a : Agree (suc n) (word_spelled command_words (word_spelling w) ⨾ after us rs) (word_spelled command_words (word_spelling v) ⨾ after xs qs) part_end ((word_shape w ≡ word_shape v) × SameAfter us rs xs qs) =
      agree_then (agree_word command_words command_words w v) (λ u. agree_after (suc (length us + length rs)) us rs xs qs (omega arith)) fit_none fit_none in
      let x = a.agrees ts r s o h g e f in
      ((rw (p, q) refl, (rw (i, j, x.0.0, x.0.1.0) refl, x.0.1.1)), x.1)
  before_step m k as' ws rs bs vs qs l ts r s o e f (redirect_first q ps i h) (redirect_first u us j g) =
      let z : length rs ≡ suc (length ps) = ap length i in
      let a : Agree (suc n) (redirect_pattern q ⨾ before as' ws ps) (redirect_pattern u ⨾ before bs vs us) part_end ((redirect_shape q ≡ redirect_shape u) × SameParts as' ws ps bs vs us) =
      agree_then (agree_redirect q u) (λ y. k as' ws ps bs vs us (omega (arith, l, z))) fit_none fit_none in
      let x = a.agrees ts r s o h g e f in
      ((x.0.1.0, (x.0.1.1.0, rw (i, j, x.0.0, x.0.1.1.1) refl)), x.1)

  agree_before_words : (m : ℕ) → BeforeUpTo m
  agree_before_words zero as' ws rs bs vs qs l = absurd (omega (arith, l))
  agree_before_words (suc m) as' ws rs bs vs qs l = record { agrees = λ ts r s o h g e f. before_step m (agree_before_words m) as' ws rs bs vs qs l ts r s o e f (first as' ws rs ts r h) (first bs vs qs ts s g) }

  abbrev parts_of : Simple → Expr
  parts_of x = some_parts (map assigned_pattern (out-Simple x).assigned.items ++ words_spelled (map word_spelling (out-Simple x).words.items)) (map redirect_pattern (out-Simple x).redirects.items)

  agree_parts : (x y : Simple) → Agree (suc n) (parts_of x) (parts_of y) part_end (simple_shape x ≡ simple_shape y)
  agree_parts x y =
      let a = out-Simple x in
      let b = out-Simple y in
      agree_map (λ i. simple_shape_is x ∙ (rw (i.0, i.1.0, i.1.1) refl) ∙ sym (simple_shape_is y))
      (agree_respelled (parts_mixed (map assigned_pattern a.assigned.items ++ words_spelled (map word_spelling a.words.items)) (map redirect_pattern a.redirects.items))
      (parts_mixed (map assigned_pattern b.assigned.items ++ words_spelled (map word_spelling b.words.items)) (map redirect_pattern b.redirects.items))
      (agree_before_words (suc (length a.assigned.items + length a.redirects.items)) a.assigned.items a.words.items a.redirects.items b.assigned.items b.words.items b.redirects.items (omega arith)))

  agree_simple : (x y : Simple) → Agree (suc n) (simple_pattern x) (simple_pattern y) redirect_begins (simple_shape x ≡ simple_shape y)
  agree_simple x y = agree_as (simple_is x) (simple_is y) (record { agrees = at })
    where
      at : (ts r s : List What) → length ts < suc n → Spells shell (last reserved_words ⨾ parts_of x ⨾ last words) ts r → Spells shell (last reserved_words ⨾ parts_of y ⨾ last words) ts s → Ends redirect_begins r → Ends redirect_begins s → (simple_shape x ≡ simple_shape y) × (r ≡ s)
      at ts r s l h g e f =
          let c = cut shell (parts_of x) (last words) ts r h.1 in
          let d = cut shell (parts_of y) (last words) ts s g.1 in
          let i : c.at ≡ r = c.second.1 in
          let j : d.at ≡ s = d.second.1 in
          let h' : Spells shell (parts_of x) ts r = subst (λ (z : List What). Spells shell (parts_of x) ts z) i c.first in
          let g' : Spells shell (parts_of y) ts s = subst (λ (z : List What). Spells shell (parts_of y) ts z) j d.first in
          let u : Ends words r = subst (λ (z : List What). Ends words z) i c.second.0 in
          let v : Ends words s = subst (λ (z : List What). Ends words z) j d.second.0 in
          let a : Agree (suc n) (parts_of x) (parts_of y) part_end (simple_shape x ≡ simple_shape y) = agree_parts x y in
          a.agrees ts r s l h' g' (ends_both words redirect_begins r u e) (ends_both words redirect_begins s v f)

  -- blocks
  agree_script : (s t : Script) → Agree n (script_pattern s) (script_pattern t) list_end (script_shape s ≡ script_shape t)
  agree_script s t = agree_respelled (script_body s) (script_body t) (H s t)

  script_fit : (s : Script) (F : List ℕ) → apart F pipeline_begins ≡ true → Fits (script_pattern s) list_end F
  script_fit s F a = fit a (begin_script s)

  agree_block : (s t : Script) → Agree n (block_of (script_pattern s)) (block_of (script_pattern t)) list_end (script_shape s ≡ script_shape t)
  agree_block s t = agree_map (λ i. i.1) (agree_then agree_newlines (λ i. agree_script s t) (script_fit s (kinds (Newline ∷ [])) refl) (script_fit t (kinds (Newline ∷ [])) refl))

  -- a block in front of a key
  block_then : (k : List ℕ) → apart list_end k ≡ true → (p : Expr) → Agree n (one k ⨾ p) (one k ⨾ p) [] (Unit {0}) → (s t : Script) → Agree n (block_of (script_pattern s) ⨾ one k ⨾ p) (block_of (script_pattern t) ⨾ one k ⨾ p) [] (script_shape s ≡ script_shape t)
  block_then k a p f s t = then_fixed (agree_block s t) f (fit a (begin_then (begin_kind k)))

  agree_do : (s t : Script) → Agree n (do_of (script_pattern s)) (do_of (script_pattern t)) [] (script_shape s ≡ script_shape t)
  agree_do s t = fixed_then (agree_reserved (kinds (Do ∷ []))) (block_then (kinds (Done ∷ [])) refl bare (agree_reserved (kinds (Done ∷ []))) s t)

  -- `if`
  agree_branch : (x y : Branch) → Agree n (branch_pattern x) (branch_pattern y) list_end (branch_shape x ≡ branch_shape y)
  agree_branch x y =
      let a = out-Branch x in
      let b = out-Branch y in
      agree_as (branch_is x) (branch_is y) (agree_map (λ i. branch_shape_is x ∙ (rw (i.0, i.1) refl) ∙ sym (branch_shape_is y))
      (agree_then (agree_block a.test b.test) (λ i. fixed_then (agree_reserved (kinds (Then ∷ []))) (agree_block a.body b.body)) (then_fit a.body) (then_fit b.body)))
    where
      then_fit : (s : Script) → Fits (reserved Then ⨾ block_of (script_pattern s)) list_end list_end
      then_fit s = fit refl (begin_then (begin_then (begin_kind (kinds (Then ∷ [])))))

  begin_branch : (x : Branch) → Begins (branch_pattern x) (kinds (Newline ∷ []) ++ pipeline_begins)
  begin_branch x = begin_as (branch_is x) (begin_then (begin_block (out-Branch x).test))

  agree_branches : (xs ys : List Branch) → Agree n (branches_of (map branch_pattern xs)) (branches_of (map branch_pattern ys)) branches_end (row (map branch_shape xs) ≡ row (map branch_shape ys))
  agree_branches xs ys = agree_parted branch_pattern branch_shape (reserved Elif) (kinds (Elif ∷ [])) [] (kinds (Newline ∷ []) ++ pipeline_begins) list_end branches_end (begin_then (begin_kind (kinds (Elif ∷ [])))) begin_branch refl refl refl refl n (agree_reserved (kinds (Elif ∷ []))) agree_branch xs ys

  agree_other : (o p : Option Script) → Agree n (else_of (option_map script_pattern o)) (else_of (option_map script_pattern p)) other_end (optional (option_map script_shape o) ≡ optional (option_map script_shape p))
  agree_other None None = agree_map (λ i. refl) agree_empty
  agree_other None (Some t) = agree_right (kinds (Else ∷ [])) (begin_then (begin_then (begin_kind (kinds (Else ∷ []))))) refl
  agree_other (Some s) None = agree_left (kinds (Else ∷ [])) (begin_then (begin_then (begin_kind (kinds (Else ∷ []))))) refl
  agree_other (Some s) (Some t) = agree_before list_end other_end refl (agree_map (λ i. ap (λ z. pair z nothing) i) (fixed_then (agree_reserved (kinds (Else ∷ []))) (agree_block s t)))

  agree_if : (x y : If) → Agree (suc n) (if_pattern x) (if_pattern y) [] (if_shape x ≡ if_shape y)
  agree_if x y =
      let a = out-If x in
      let b = out-If y in
      agree_as (if_is x) (if_is y) (agree_map (λ i. if_shape_is x ∙ (rw (i.0, i.1) refl) ∙ sym (if_shape_is y))
      (agree_behind (kinds (If_ ∷ [])) (kinds (If_ ∷ [])) (fixed_then agree_bare
      (agree_then (agree_branches a.branches.items b.branches.items) (λ i. then_fixed (agree_other a.other b.other) (agree_reserved (kinds (Fi ∷ []))) (fit refl (begin_then (begin_kind (kinds (Fi ∷ [])))))) (else_fit a.other) (else_fit b.other)))))
    where
      else_fit : (o : Option Script) → Fits (else_of (option_map script_pattern o) ⨾ reserved Fi) [] branches_end
      else_fit None = fit refl (begin_empty (begin_then (begin_kind (kinds (Fi ∷ [])))))
      else_fit (Some s) = fit refl (begin_then (begin_then (begin_then (begin_kind (kinds (Else ∷ []))))))

  -- `while` and `until`
  agree_loop_by : (u v : Bool) (a b c d : Script) → Agree (suc n) (key (cond u Until While) ⨾ bare ⨾ block_of (script_pattern a) ⨾ do_of (script_pattern b)) (key (cond v Until While) ⨾ bare ⨾ block_of (script_pattern c) ⨾ do_of (script_pattern d)) []
      ((u ≡ v) × ((script_shape a ≡ script_shape c) × (script_shape b ≡ script_shape d)))
  agree_loop_by true true a b c d = agree_map (λ i. (refl, i)) (agree_behind (kinds (Until ∷ [])) (kinds (Until ∷ [])) (fixed_then agree_bare (agree_then (agree_block a c) (λ i. agree_do b d) (do_fit b) (do_fit d))))
  agree_loop_by false false a b c d = agree_map (λ i. (refl, i)) (agree_behind (kinds (While ∷ [])) (kinds (While ∷ [])) (fixed_then agree_bare (agree_then (agree_block a c) (λ i. agree_do b d) (do_fit b) (do_fit d))))
  agree_loop_by true false a b c d = agree_apart (kinds (Until ∷ [])) (kinds (While ∷ [])) (begin_then (begin_kind (kinds (Until ∷ [])))) (begin_then (begin_kind (kinds (While ∷ [])))) refl
  agree_loop_by false true a b c d = agree_apart (kinds (While ∷ [])) (kinds (Until ∷ [])) (begin_then (begin_kind (kinds (While ∷ [])))) (begin_then (begin_kind (kinds (Until ∷ [])))) refl

  agree_loop : (x y : Loop) → Agree (suc n) (loop_pattern x) (loop_pattern y) [] (loop_shape x ≡ loop_shape y)
  agree_loop x y =
      let a = out-Loop x in
      let b = out-Loop y in
      agree_as (loop_is x) (loop_is y) (agree_map (λ i. loop_shape_is x ∙ (rw (i.0, i.1.0, i.1.1) refl) ∙ sym (loop_shape_is y)) (agree_loop_by a.until b.until a.test a.body b.test b.body))

  -- `for`
  agree_words : (vs ws : List Word) → Agree n (all (map any_word (map word_spelling vs))) (all (map any_word (map word_spelling ws))) words (row (map word_shape vs) ≡ row (map word_shape ws))
  agree_words vs ws = agree_as (ap all (words_map vs)) (ap all (words_map ws)) (agree_all (λ w. any_word (word_spelling w)) word_shape words [] words (λ w. begin_word words (word_spelling w)) refl refl refl n (λ v w. agree_less (agree_word words words v w)) vs ws)

  agree_sequential : Agree n sequential sequential (kinds (Newline ∷ [])) (Unit {0})
  agree_sequential = fixed_then (agree_key (kinds (Semicolon ∷ Newline ∷ []))) agree_newlines

  agree_for : (x y : For) → Agree (suc n) (for_pattern x) (for_pattern y) [] (for_shape x ≡ for_shape y)
  agree_for x y =
      let a = out-For x in
      let b = out-For y in
      agree_as (for_is x) (for_is y) (agree_map (λ i. for_shape_is x ∙ (rw (i.0, i.1.0, i.1.1) refl) ∙ sym (for_shape_is y))
      (agree_behind (kinds (For_ ∷ [])) (kinds (For_ ∷ [])) (fixed_then agree_bare
      (agree_then (agree_name a.name b.name) (λ i. fixed_then (agree_reserved (kinds (In ∷ [])))
      (agree_then (agree_words a.words.items b.words.items) (λ i. agree_map (λ j. j.1) (agree_then agree_sequential (λ j. agree_do a.body b.body) (do_newline a.body) (do_newline b.body))) (sequential_fit a.body) (sequential_fit b.body))) fit_none fit_none))))
    where
      do_newline : (s : Script) → Fits (do_of (script_pattern s)) [] (kinds (Newline ∷ []))
      do_newline s = fit refl (begin_then (begin_then (begin_kind (kinds (Do ∷ [])))))

      sequential_fit : (s : Script) → Fits (sequential ⨾ do_of (script_pattern s)) [] words
      sequential_fit s = fit refl (begin_then (begin_then (begin_kind (kinds (Semicolon ∷ Newline ∷ [])))))

  -- `case`
  agree_first_pattern : (v w : Word) → Agree n (first_pattern_of (word_spelling v)) (first_pattern_of (word_spelling w)) [] (word_shape v ≡ word_shape w)
  agree_first_pattern v w = record { agrees = at }
    where
      at : (ts r s : List What) → length ts < n → Spells shell (first_pattern_of (word_spelling v)) ts r → Spells shell (first_pattern_of (word_spelling w)) ts s → Ends [] r → Ends [] s → (word_shape v ≡ word_shape w) × (r ≡ s)
      at ts r s l (inl h) (inl g) e f =
          let a : Agree n (key LeftParen ⨾ any_word (word_spelling v)) (key LeftParen ⨾ any_word (word_spelling w)) [] (word_shape v ≡ word_shape w) = fixed_then (agree_key (kinds (LeftParen ∷ []))) (agree_less (agree_word words words v w)) in
          a.agrees ts r s l h g e f
      at ts r s l (inr h) (inr g) e f =
          let a : Agree n (word_spelled words_but_esac (word_spelling v)) (word_spelled words_but_esac (word_spelling w)) [] (word_shape v ≡ word_shape w) = agree_less (agree_word words_but_esac words_but_esac v w) in
          a.agrees ts r s l h g e f
      at ts r s l (inl h) (inr g) e f = absurd (clash (kinds (LeftParen ∷ [])) words_but_esac refl ts (begins_key (kinds (LeftParen ∷ [])) _ ts h) (begins_key words_but_esac _ ts g))
      at ts r s l (inr h) (inl g) e f = absurd (clash (kinds (LeftParen ∷ [])) words_but_esac refl ts (begins_key (kinds (LeftParen ∷ [])) _ ts g) (begins_key words_but_esac _ ts h))

  agree_pattern_behind : (v w : Word) → Agree n (pattern_behind (word_spelling v)) (pattern_behind (word_spelling w)) [] (word_shape v ≡ word_shape w)
  agree_pattern_behind v w =
      agree_map (λ i. i.1) (agree_then (fixed_then (agree_key (kinds (Pipe ∷ []))) agree_newlines) (λ i. agree_less (agree_word words words v w)) (fit refl (begin_word words (word_spelling v))) (fit refl (begin_word words (word_spelling w))))

  begin_pattern_behind : (w : Word) → Begins (pattern_behind (word_spelling w)) (kinds (Pipe ∷ []))
  begin_pattern_behind w = begin_then (begin_then (begin_kind (kinds (Pipe ∷ []))))

  agree_patterns : (vs ws : List Word) → Agree n (patterns_of (map word_spelling vs)) (patterns_of (map word_spelling ws)) (kinds (Pipe ∷ [])) (row (map word_shape vs) ≡ row (map word_shape ws))
  agree_patterns [] ws = record { agrees = λ ts r s l h g e f. absurd (let i = h.1 in cc) }
  agree_patterns (v ∷ vs) [] = record { agrees = λ ts r s l h g e f. absurd (let i = g.1 in cc) }
  agree_patterns (v ∷ vs) (w ∷ ws) =
      rw (behind_map vs, behind_map ws)
      (agree_map (λ i. rw (i.0, i.1) refl)
      (agree_then (agree_first_pattern v w) (λ i. agree_all (λ z. pattern_behind (word_spelling z)) word_shape (kinds (Pipe ∷ [])) [] (kinds (Pipe ∷ [])) begin_pattern_behind refl refl refl n agree_pattern_behind vs ws) fit_none fit_none))

  agree_body : (o p : Option Script) → Agree n (body_of (option_map script_pattern o)) (body_of (option_map script_pattern p)) list_end (optional (option_map script_shape o) ≡ optional (option_map script_shape p))
  agree_body None None = agree_map (λ i. refl) agree_empty
  agree_body None (Some t) = agree_right pipeline_begins (begin_script t) refl
  agree_body (Some s) None = agree_left pipeline_begins (begin_script s) refl
  agree_body (Some s) (Some t) = agree_map (λ i. ap (λ z. pair z nothing) i) (agree_script s t)

  option_fit : (o : Option Script) → Fits (body_of (option_map script_pattern o)) list_end (kinds (Newline ∷ []))
  option_fit None = fit_empty refl
  option_fit (Some s) = fit refl (begin_script s)

  agree_item : (x y : Item) → Agree n (item_pattern x) (item_pattern y) list_end (item_shape x ≡ item_shape y)
  agree_item x y =
      let a = out-Item x in
      let b = out-Item y in
      agree_as (item_is x) (item_is y) (agree_map (λ i. item_shape_is x ∙ (rw (i.0, i.1) refl) ∙ sym (item_shape_is y))
      (agree_then (agree_patterns a.patterns.items b.patterns.items) (λ i. fixed_then (agree_key (kinds (RightParen ∷ []))) (agree_map (λ j. j.1) (agree_then agree_newlines (λ j. agree_body a.body b.body) (option_fit a.body) (option_fit b.body)))) (paren_fit a.body) (paren_fit b.body)))
    where
      paren_fit : (o : Option Script) → Fits (key RightParen ⨾ newlines ⨾ body_of (option_map script_pattern o)) list_end (kinds (Pipe ∷ []))
      paren_fit o = fit refl (begin_then (begin_kind (kinds (RightParen ∷ []))))

  agree_item_end : Agree n item_end item_end (kinds (Newline ∷ [])) (Unit {0})
  agree_item_end = fixed_then (agree_key (kinds (CaseEnd ∷ []))) agree_newlines

  agree_items : (xs ys : List Item) → Agree n (items_of (map item_pattern xs)) (items_of (map item_pattern ys)) items_end (row (map item_shape xs) ≡ row (map item_shape ys))
  agree_items [] [] = agree_map (λ i. refl) agree_empty
  agree_items [] (y ∷ ys) = agree_right item_begins (begin_then (begin_then (begin_item y))) refl
  agree_items (x ∷ xs) [] = agree_left item_begins (begin_then (begin_then (begin_item x))) refl
  agree_items (x ∷ xs) (y ∷ ys) = agree_row item_pattern item_shape item_end (kinds (CaseEnd ∷ [])) (kinds (Newline ∷ [])) item_begins list_end items_end (begin_then (begin_kind (kinds (CaseEnd ∷ [])))) begin_item refl refl refl refl refl refl n agree_item_end agree_item x y xs ys

  agree_case : (x y : Case) → Agree (suc n) (case_pattern x) (case_pattern y) [] (case_shape x ≡ case_shape y)
  agree_case x y =
      let a = out-Case x in
      let b = out-Case y in
      agree_as (case_is x) (case_is y) (agree_map (λ i. case_shape_is x ∙ (rw (i.0, i.1) refl) ∙ sym (case_shape_is y))
      (agree_behind (kinds (Case_ ∷ [])) (kinds (Case_ ∷ [])) (fixed_then agree_bare
      (agree_then (agree_less (agree_word words words a.word b.word)) (λ i. fixed_then (agree_reserved (kinds (In ∷ [])))
      (agree_map (λ j. j.1) (agree_then agree_newlines (λ j. then_fixed (agree_items a.items.items b.items.items) (agree_reserved (kinds (Esac ∷ []))) (fit refl (begin_then (begin_kind (kinds (Esac ∷ [])))))) (items_fit a.items.items) (items_fit b.items.items)))) fit_none fit_none))))
    where
      items_fit : (xs : List Item) → Fits (items_of (map item_pattern xs) ⨾ reserved Esac) [] (kinds (Newline ∷ []))
      items_fit [] = fit refl (begin_empty (begin_then (begin_kind (kinds (Esac ∷ [])))))
      items_fit (x ∷ xs) = fit refl (begin_then (begin_then (begin_then (begin_item x))))

  -- compound commands
  agree_compounds : {x y : Compound} → CompoundView x → CompoundView y → Agree (suc n) (compound_pattern x) (compound_pattern y) [] (compound_shape x ≡ compound_shape y)
  agree_compounds (subshell_view a e i) (subshell_view b f j) = agree_as e f (agree_map (λ k. i ∙ ap (λ z. variant 0 z) k ∙ sym j) (agree_behind (kinds (LeftParen ∷ [])) (kinds (LeftParen ∷ [])) (then_fixed (agree_block a b) (agree_key (kinds (RightParen ∷ []))) (fit refl (begin_kind (kinds (RightParen ∷ [])))))))
  agree_compounds (group_view a e i) (group_view b f j) = agree_as e f (agree_map (λ k. i ∙ ap (λ z. variant 1 z) k ∙ sym j) (agree_behind (kinds (LeftBrace ∷ [])) (kinds (LeftBrace ∷ [])) (fixed_then agree_bare (block_then (kinds (RightBrace ∷ [])) refl bare (agree_reserved (kinds (RightBrace ∷ []))) a b))))
  agree_compounds (if_view a e i) (if_view b f j) = agree_as e f (agree_map (λ k. i ∙ ap (λ z. variant 2 z) k ∙ sym j) (agree_if a b))
  agree_compounds (loop_view a e i) (loop_view b f j) = agree_as e f (agree_map (λ k. i ∙ ap (λ z. variant 3 z) k ∙ sym j) (agree_loop a b))
  agree_compounds (for_view a e i) (for_view b f j) = agree_as e f (agree_map (λ k. i ∙ ap (λ z. variant 4 z) k ∙ sym j) (agree_for a b))
  agree_compounds (case_view a e i) (case_view b f j) = agree_as e f (agree_map (λ k. i ∙ ap (λ z. variant 5 z) k ∙ sym j) (agree_case a b))
  agree_compounds v w = agree_apart (compound_classes v) (compound_classes w) (begin_compound_view v) (begin_compound_view w) refl

  -- commands
  agree_commands : {x y : Command} → CommandView x → CommandView y → Agree (suc n) (command_pattern x) (command_pattern y) redirect_begins (command_shape x ≡ command_shape y)
  agree_commands (simple_view a e i) (simple_view b f j) = agree_as e f (agree_map (λ k. i ∙ ap (λ z. variant 0 z) k ∙ sym j) (agree_simple a b))
  agree_commands (with_redirects a rs e i) (with_redirects b qs f j) =
      agree_as e f (agree_map (λ k. i ∙ (rw (k.0, k.1) refl) ∙ sym j) (agree_then (agree_compounds (compound_view a) (compound_view b)) (λ k. agree_redirects rs qs) fit_none fit_none))
  agree_commands (simple_view a e i) (with_redirects b qs f j) = agree_as e f (agree_apart simple_begins compound_begins (begin_simple a) (begin_then (begin_compound b)) refl)
  agree_commands (with_redirects a rs e i) (simple_view b f j) = agree_as e f (agree_apart compound_begins simple_begins (begin_then (begin_compound a)) (begin_simple b) refl)

  agree_command : (x y : Command) → Agree (suc n) (command_pattern x) (command_pattern y) redirect_begins (command_shape x ≡ command_shape y)
  agree_command x y = agree_commands (command_view x) (command_view y)

  agree_staged : (xs ys : List Command) → Agree (suc n) (staged (map command_pattern xs)) (staged (map command_pattern ys)) stages_end (row (map command_shape xs) ≡ row (map command_shape ys))
  agree_staged xs ys = agree_parted command_pattern command_shape (key Pipe ⨾ newlines) (kinds (Pipe ∷ [])) (kinds (Newline ∷ [])) command_begins redirect_begins stages_end (begin_then (begin_kind (kinds (Pipe ∷ [])))) begin_command refl refl refl refl (suc n) (fixed_then (agree_key (kinds (Pipe ∷ []))) agree_newlines) agree_command xs ys

  agree_pipeline_by : (b c : Bool) (xs ys : List Command) → Agree (suc n) (cond b (reserved Bang) empty ⨾ staged (map command_pattern xs)) (cond c (reserved Bang) empty ⨾ staged (map command_pattern ys)) stages_end ((b ≡ c) × (row (map command_shape xs) ≡ row (map command_shape ys)))
  agree_pipeline_by true true xs ys = agree_map (λ i. (refl, i)) (fixed_then (agree_reserved (kinds (Bang ∷ []))) (agree_staged xs ys))
  agree_pipeline_by false false xs ys = agree_map (λ i. (refl, i)) (fixed_then agree_empty (agree_staged xs ys))
  agree_pipeline_by true false xs ys = agree_apart (kinds (Bang ∷ [])) command_begins (begin_then (begin_then (begin_kind (kinds (Bang ∷ []))))) (begin_empty (begin_staged ys)) refl
  agree_pipeline_by false true xs ys = agree_apart command_begins (kinds (Bang ∷ [])) (begin_empty (begin_staged xs)) (begin_then (begin_then (begin_kind (kinds (Bang ∷ []))))) refl

  agree_pipeline : (x y : Pipeline) → Agree (suc n) (pipeline_pattern x) (pipeline_pattern y) stages_end (pipeline_shape x ≡ pipeline_shape y)
  agree_pipeline x y =
      let a = out-Pipeline x in
      let b = out-Pipeline y in
      agree_as (pipeline_is x) (pipeline_is y) (agree_map (λ i. pipeline_shape_is x ∙ (rw (i.0, i.1) refl) ∙ sym (pipeline_shape_is y)) (agree_pipeline_by a.not b.not a.stages.items b.stages.items))

  agree_next : (p q : Pipeline) → Agree (suc n) (newlines ⨾ pipeline_pattern p) (newlines ⨾ pipeline_pattern q) stages_end (pipeline_shape p ≡ pipeline_shape q)
  agree_next p q = agree_map (λ i. i.1) (agree_then agree_newlines (λ i. agree_pipeline p q) (fit refl (begin_pipeline p)) (fit refl (begin_pipeline q)))

  agree_joined_by : (b c : Bool) (p q : Pipeline) → Agree (suc n) (key (cond b AndIf OrIf) ⨾ newlines ⨾ pipeline_pattern p) (key (cond c AndIf OrIf) ⨾ newlines ⨾ pipeline_pattern q) stages_end ((b ≡ c) × (pipeline_shape p ≡ pipeline_shape q))
  agree_joined_by true true p q = agree_map (λ i. (refl, i)) (fixed_then (agree_key (kinds (AndIf ∷ []))) (agree_next p q))
  agree_joined_by false false p q = agree_map (λ i. (refl, i)) (fixed_then (agree_key (kinds (OrIf ∷ []))) (agree_next p q))
  agree_joined_by true false p q = agree_apart (kinds (AndIf ∷ [])) (kinds (OrIf ∷ [])) (begin_then (begin_kind (kinds (AndIf ∷ [])))) (begin_then (begin_kind (kinds (OrIf ∷ [])))) refl
  agree_joined_by false true p q = agree_apart (kinds (OrIf ∷ [])) (kinds (AndIf ∷ [])) (begin_then (begin_kind (kinds (OrIf ∷ [])))) (begin_then (begin_kind (kinds (AndIf ∷ [])))) refl

  agree_joined : (x y : Joined) → Agree (suc n) (joined_pattern x) (joined_pattern y) stages_end (joined_shape x ≡ joined_shape y)
  agree_joined x y =
      let a = out-Joined x in
      let b = out-Joined y in
      agree_as (joined_is x) (joined_is y) (agree_map (λ i. joined_shape_is x ∙ (rw (i.0, i.1) refl) ∙ sym (joined_shape_is y)) (agree_joined_by a.and b.and a.next b.next))

  agree_and_or : (x y : AndOr) → Agree (suc n) (and_or_pattern x) (and_or_pattern y) and_or_end (and_or_shape x ≡ and_or_shape y)
  agree_and_or x y =
      let a = out-AndOr x in
      let b = out-AndOr y in
      agree_as (and_or_is x) (and_or_is y) (agree_map (λ i. and_or_shape_is x ∙ (rw (i.0, i.1) refl) ∙ sym (and_or_shape_is y))
      (agree_then (agree_pipeline a.first b.first) (λ i. agree_all joined_pattern joined_shape (kinds (AndIf ∷ OrIf ∷ [])) stages_end and_or_end begin_joined refl refl refl (suc n) agree_joined a.rest.items b.rest.items) (rest_fit a.rest.items) (rest_fit b.rest.items)))
    where
      rest_fit : (xs : List Joined) → Fits (all (map joined_pattern xs)) and_or_end stages_end
      rest_fit xs = all_fit joined_pattern joined_shape (kinds (AndIf ∷ OrIf ∷ [])) stages_end and_or_end begin_joined refl refl refl xs

  agree_list : (xs ys : List AndOr) → Agree (suc n) (body_of (list_of (map and_or_pattern xs))) (body_of (list_of (map and_or_pattern ys))) list_end (row (map and_or_shape xs) ≡ row (map and_or_shape ys))
  agree_list [] [] = agree_map (λ i. refl) agree_empty
  agree_list [] (y ∷ ys) = agree_right pipeline_begins (begin_then (begin_then (begin_and_or y))) refl
  agree_list (x ∷ xs) [] = agree_left pipeline_begins (begin_then (begin_then (begin_and_or x))) refl
  agree_list (x ∷ xs) (y ∷ ys) = agree_row and_or_pattern and_or_shape sequential (kinds (Semicolon ∷ Newline ∷ [])) (kinds (Newline ∷ [])) pipeline_begins and_or_end list_end (begin_then (begin_kind (kinds (Semicolon ∷ Newline ∷ [])))) begin_and_or refl refl refl refl refl refl (suc n) (fixed_then (agree_key (kinds (Semicolon ∷ Newline ∷ []))) agree_newlines) agree_and_or x y xs ys

  pub agree_scripts : (s t : Script) → Agree (suc n) (body_pattern s) (body_pattern t) list_end (script_shape s ≡ script_shape t)
  agree_scripts s t =
      agree_as (ap body_of (script_is s)) (ap body_of (script_is t)) (agree_map (λ i. script_shape_is s ∙ i ∙ sym (script_shape_is t)) (agree_list (out-Script s).list.items (out-Script t).list.items))

-- in any number of lexemes
abbrev ScriptsAgree : ℕ → Type 0
ScriptsAgree n = (s t : Script) → Agree n (body_pattern s) (body_pattern t) list_end (script_shape s ≡ script_shape t)

none_shorter : {p q : Expr} {F : List ℕ} {A : Type 0} → Agree zero p q F A
none_shorter = record { agrees = λ ts r s l h g e f. absurd (omega (arith, l)) }

trees_agree : (n : ℕ) → ScriptsAgree n
trees_agree zero = λ s t. none_shorter
trees_agree (suc n) = agree_scripts n (trees_agree n)

agree_whole : (n : ℕ) (s t : Script) → Agree n (newlines ⨾ body_pattern s) (newlines ⨾ body_pattern t) list_end (script_shape s ≡ script_shape t)
agree_whole n s t = agree_map (λ i. i.1) (agree_then agree_newlines (λ i. trees_agree n s t) (body_fits s) (body_fits t))

pub only_tree : (lexed : Lexed) (s t : Script) → IsScript lexed s → IsScript lexed t → script_shape s ≡ script_shape t
only_tree lexed s t h g =
    let a : Agree (suc (length (whats lexed.items))) (newlines ⨾ body_pattern s) (newlines ⨾ body_pattern t) list_end (script_shape s ≡ script_shape t) = agree_whole (suc (length (whats lexed.items))) s t in
    let x = a.agrees (whats lexed.items) [] [] (omega arith) h.spells g.spells refl refl in
    x.0
