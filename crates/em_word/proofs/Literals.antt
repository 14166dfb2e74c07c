-- Words that are one text come to it.
use Rattle.std.proofs.Common.{◌≡◌, ◌∙◌, ◌<◌, ◌==◌, ℕ, zero, suc, Bool, true, false, not, ◌&&◌, ◌||◌, List, All, [], ◌∷◌, length, map, Some, refl, ap, arith}
use Rattle.std.specs.List.{list_all}
use Rattle.em_glob.specs.declared.glyph.Glyph.{Glyph}
use Rattle.em_glob.specs.Patterns.{is_pattern, bytes_of}
use Rattle.em_view.specs.Actions.{◌>>=◌, done}
use Rattle.em_syntax.specs.declared.tree.Command.TheOpen.{WordWhat-F}
use Rattle.em_syntax.specs.declared.tree.Word.{Word, out-Word}
use Rattle.em_syntax.specs.declared.tree.WordPiece.{WordPiece, out-WordPiece}
use Rattle.em_syntax.specs.Pieces.{What, what_in}
use Rattle.em_fields.specs.Parts.{marked, glyph, is_space, IsFilled}
use Rattle.em_fields.proofs.Parting.{quoted_law, joined_law}
use Rattle.em_word.specs.declared.shell.Shell.{Shell}
use Rattle.em_word.specs.declared.turn.Mode.TheVariants as mode
use Rattle.em_word.specs.Talk.{Ends}
use Rattle.em_word.specs.Turns.{Finished, finish, expanded, names_of, turn}
use Rattle.em_word.specs.Words.{plan, taken_up, word_plan}
use Rattle.em_word.specs.Literal.{is_ordinary, stands_alone, text_in, text_of_pieces, literal_of}

no_or : (x y : Bool) → not (x || y) ≡ true → (x ≡ false) × (not y ≡ true)
no_or true y e = absurd cc
no_or false y e = (refl, e)

both : (x y : Bool) → (x && y) ≡ true → (x ≡ true) × (y ≡ true)
both true y e = (refl, e)
both false y e = absurd cc

is_no : (x : Bool) → not x ≡ true → x ≡ false
is_no true e = absurd cc
is_no false e = refl

-- a field that is itself
pub same_bytes : (q : Bool) (text : List ℕ) → bytes_of (map (glyph q) text) ≡ text
same_bytes q [] = refl
same_bytes q (b ∷ bs) = ap (λ l. b ∷ l) (same_bytes q bs)

pub itself : (cwd : List ℕ) (f : List Glyph) → is_pattern f ≡ false → expanded cwd (f ∷ []) ≡ done (Finished (bytes_of f ∷ []))
unfolding expanded names_of ◌>>=◌ done
itself cwd f plain = rw plain refl

-- what is quoted is no pattern
plain_quoted : (text : List ℕ) → is_pattern (map (glyph true) text) ≡ false
plain_quoted [] = refl
plain_quoted (b ∷ bs) = plain_quoted bs

pub all_quoted : (text : List ℕ) → All (λ g. g.quoted ≡ true) (map (glyph true) text)
all_quoted [] k d low = absurd (omega (arith, low))
all_quoted (b ∷ bs) zero d low = refl
all_quoted (b ∷ bs) (suc k) d low = all_quoted bs k d (omega (arith, low))

-- without a byte of a pattern it is none
plain_pattern : (text : List ℕ) → list_all is_ordinary text ≡ true → is_pattern (map (glyph false) text) ≡ false
plain_pattern [] e = refl
plain_pattern (b ∷ bs) e =
    let here = both (is_ordinary b) (list_all is_ordinary bs) e in
    let space = no_or (is_space b) ((b == 42) || ((b == 63) || (b == 91))) here.0 in
    let star = no_or (b == 42) ((b == 63) || (b == 91)) space.1 in
    let question = no_or (b == 63) (b == 91) star.1 in
    let bracket = is_no (b == 91) question.1 in
    rw (star.0, question.0, bracket) (plain_pattern bs here.1)

all_filled : (text : List ℕ) → list_all is_ordinary text ≡ true → All (λ b. is_space b ≡ false) text
all_filled [] e k d low = absurd (omega (arith, low))
all_filled (b ∷ bs) e zero d low = (no_or (is_space b) ((b == 42) || ((b == 63) || (b == 91))) (both (is_ordinary b) (list_all is_ordinary bs) e).0).0
all_filled (b ∷ bs) e (suc k) d low = all_filled bs (both (is_ordinary b) (list_all is_ordinary bs) e).1 k d (omega (arith, low))

some_length : (text : List ℕ) → not (length text == 0) ≡ true → 0 < length text
some_length [] e = absurd cc
some_length (b ∷ bs) e = omega arith

one_filled : (text : List ℕ) → IsFilled text → All IsFilled (text ∷ [])
one_filled text h zero d low = h
one_filled text h (suc k) d low = absurd (omega (arith, low))

alone : (cwd : List ℕ) (q : Bool) (text : List ℕ) → stands_alone q text ≡ true → finish mode.Fields cwd (marked q text) ≡ done (Finished (text ∷ []))
alone cwd true text e = ap (expanded cwd) (quoted_law text) ∙ itself cwd (map (glyph true) text) (plain_quoted text) ∙ ap (λ t. done (Finished (t ∷ []))) (same_bytes true text)
alone cwd false text e =
    let h = both (not (length text == 0)) (list_all is_ordinary text) e in
    ap (expanded cwd) (joined_law (text ∷ []) (one_filled text (some_length text h.0, all_filled text h.1)))
    ∙ itself cwd (map (glyph false) text) (plain_pattern text h.1) ∙ ap (λ t. done (Finished (t ∷ []))) (same_bytes false text)

some_is : (t u : List ℕ) → Some t ≡ Some u → t ≡ u
some_is t u e = cc

-- the plan of such a piece alone
literal_piece : (w : What) (q : Bool) (shell : Shell) (text : List ℕ) → text_in w q ≡ Some text → turn mode.Fields (taken_up w q [] [] (λ m us qs. plan m us qs [])) shell ≡ done (Finished (text ∷ []))
literal_piece (WordWhat-F.Bytes t) q shell text e = at (stands_alone q t) refl e
  where
    at : (b : Bool) → stands_alone q t ≡ b → text_in (WordWhat-F.Bytes t) q ≡ Some text → turn mode.Fields (Ends (marked q t)) shell ≡ done (Finished (text ∷ []))
    at true i k = alone shell.cwd q t i ∙ ap (λ l. done (Finished (l ∷ []))) (some_is t text (rw i at k))
    at false i k = absurd (let n = rw i at k in cc)
literal_piece (WordWhat-F.Value v) q shell text e = absurd cc
literal_piece (WordWhat-F.Argument v) q shell text e = absurd cc
literal_piece WordWhat-F.End q shell text e = absurd cc
literal_piece (WordWhat-F.Output s) q shell text e = absurd cc

pub literal_comes : (w : Word) (text : List ℕ) (shell : Shell) → literal_of w ≡ Some text → turn mode.Fields (word_plan w) shell ≡ done (Finished (text ∷ []))
unfolding word_plan
literal_comes w text shell e = at (out-Word w).pieces.items e
  where
    at : (ps : List WordPiece) → text_of_pieces ps ≡ Some text → turn mode.Fields (plan 0 [] [] ps) shell ≡ done (Finished (text ∷ []))
    at [] k = absurd cc
    at (p ∷ []) k = literal_piece (what_in p) (out-WordPiece p).quoted shell text k
    at (p ∷ q ∷ ps) k = absurd cc
