-- A line of bytes that mean nothing to the shell.
use Rattle.std.proofs.Common.{◌≡◌, ◌≢◌, ℕ, ◌+◌, ◌==◌, ◌&&◌, ◌||◌, not, Bool, true, false, cond, List, [], ◌∷◌, ◌++◌, drop, slice_get, length, refl, sym, ap, ◌∙◌, append_assoc, append-nil}
use Rattle.std.specs.Prelude.{None, All}
use Rattle.std.specs.List.{AllByRecursion}
use Rattle.std.proofs.lemmas.Bool.{ne_eqb}
use Rattle.std.proofs.lemmas.List.Elements.{recursion_from_All}
use Rattle.em_base.specs.Blanks.{is_blank}
use Rattle.em_lexeme.specs.declared.lexeme.Lexed.{Lexed}
use Rattle.em_lexeme.specs.declared.frame.Frame.TheVariants.{Cases}
use Rattle.em_lex.specs.declared.state.Lexer.{Lexer}
use Rattle.em_lex.specs.declared.state.Mode.TheVariants.{Head}
use Rattle.em_lexeme.specs.declared.spot.Spot.TheVariants.{Command}
use Rattle.em_lex.specs.Alone.{bare_word}
use Rattle.em_lexeme.specs.Bytes.{acts, begins_operator, ends_word}
use Rattle.em_lexeme.specs.Frames.{is_word, is_plain, outermost}
use Rattle.em_lex.specs.Lexing.{next, run, byte_at, at_first, finished, outcome, lexed, lexed_in}
use Rattle.em_lex.specs.Modes.{ready, between, heading, settled}
use Rattle.em_lexeme.specs.Spots.{is_case, is_esac}
use Rattle.em_lex.specs.Quotes.{step}
use Rattle.em_lexeme.specs.Words.{reserved, whole_start, is_assigning, is_number}
use Rattle.em_lex.specs.Heads.{told, worded, headed}
use Rattle.em_lex.proofs.Quoted.{top_level, and_false}

-- behind these bytes
abbrev in_head : List ℕ → Lexer
in_head t = record { items = []; fault = None; frames = []; spot = Command; mode = Head; backslash = false; start = 0; text = t; places = [] }

or_left : (x y : Bool) → (x || y) ≡ false → x ≡ false
or_left true y h = h
or_left false y h = refl

or_right : (x y : Bool) → (x || y) ≡ false → y ≡ false
or_right true y h = absurd (let t : true ≡ false = h in cc)
or_right false y h = h

not_true : (x : Bool) → not x ≡ true → x ≡ false
not_true true h = sym h
not_true false h = refl

-- what a byte isn't that means nothing
record IsInert (b : ℕ) : Type 0 where
  blank : is_blank b ≡ false
  newline : (b == 10) ≡ false
  opening : (b == 40) ≡ false
  closing : (b == 41) ≡ false
  operator : begins_operator b ≡ false
  ending : ends_word b ≡ false
  acting : acts b ≡ false
  backslash : (b == 92) ≡ false

inert : (b : ℕ) → is_plain b ≡ true → IsInert b
inert b h =
    let none = not_true (ends_word b || acts b || (b == 92)) h in
    let some = or_left (ends_word b || acts b) (b == 92) none in
    let ends = or_left (ends_word b) (acts b) some in
    let up_to_closing = or_left (is_blank b || (b == 10) || (b == 40) || (b == 41)) (begins_operator b) ends in
    let up_to_opening = or_left (is_blank b || (b == 10) || (b == 40)) (b == 41) up_to_closing in
    let up_to_newline = or_left (is_blank b || (b == 10)) (b == 40) up_to_opening in
    record {
      blank = or_left (is_blank b) (b == 10) up_to_newline;
      newline = or_right (is_blank b) (b == 10) up_to_newline;
      opening = or_right (is_blank b || (b == 10)) (b == 40) up_to_opening;
      closing = or_right (is_blank b || (b == 10) || (b == 40)) (b == 41) up_to_closing;
      operator = or_right (is_blank b || (b == 10) || (b == 40) || (b == 41)) (begins_operator b) ends;
      ending = ends;
      acting = or_right (ends_word b) (acts b) some;
      backslash = or_right (ends_word b || acts b) (b == 92) none;
    }

begins : (within : List ℕ → Lexed) (b : ℕ) → (b == 35) ≡ false → IsInert b → next within at_first (byte_at b 0) ≡ in_head (b ∷ [])
unfolding step ready between
begins within b hash is = rw (is.backslash, is.acting, is.blank, is.newline, hash, is.opening, is.closing, is.operator) refl

keeps : (within : List ℕ → Lexed) (t : List ℕ) (b at : ℕ) → IsInert b → next within (in_head t) (byte_at b at) ≡ in_head (t ++ b ∷ [])
unfolding step heading
keeps within t b at is = rw (is.backslash, is.ending, is.acting) refl

bare : (within : List ℕ → Lexed) (t bytes : List ℕ) (at : ℕ) → AllByRecursion (λ b. is_plain b ≡ true) bytes → run within (in_head t) at bytes ≡ in_head (t ++ bytes)
bare within t [] at all = ap in_head (sym (append-nil t))
bare within t (b ∷ bs) at all =
    ap (λ s. run within s (at + 1) bs) (keeps within t b at (inert b all.0)) ∙ bare within (t ++ b ∷ []) bs (at + 1) all.1 ∙ ap in_head (append_assoc t (b ∷ []) bs)

no_word : (a b : Bool) → is_word (slice_get (cond a (Cases ∷ []) (cond b (drop 1 []) [])) 0) ≡ false
no_word true b = refl
no_word false true = refl
no_word false false = refl

none_open : (a b : Bool) → outermost (cond a (Cases ∷ []) (cond b (drop 1 []) [])) None ≡ None
none_open true b = refl
none_open false true = refl
none_open false false = refl

ended : (t : List ℕ) (n : ℕ) → length t ≡ n → is_assigning (whole_start (reserved t) t) ≡ false → outcome (finished (in_head t) n) ≡ bare_word (whole_start (reserved t) t) t
unfolding finished settled told worded headed
ended t n size other =
    let w = whole_start (reserved t) t in
    rw (and_false (is_number t), other, no_word (is_case w) (is_esac w && false), none_open (is_case w) (is_esac w && false), ← size) refl

pub bare_law : (b : ℕ) (bytes : List ℕ) → b ≢ 35 → All (λ c. is_plain c ≡ true) (b ∷ bytes) → is_assigning (whole_start (reserved (b ∷ bytes)) (b ∷ bytes)) ≡ false → lexed (b ∷ bytes) ≡ bare_word (whole_start (reserved (b ∷ bytes)) (b ∷ bytes)) (b ∷ bytes)
bare_law b bytes hash all other =
    let within = lexed_in 63 in
    let each = recursion_from_All (λ c. is_plain c ≡ true) (b ∷ bytes) all in
    let read : run within at_first 0 (b ∷ bytes) ≡ in_head (b ∷ bytes) =
    ap (λ s. run within s (0 + 1) bytes) (begins within b (ne_eqb _ _ hash) (inert b each.0)) ∙ bare within (b ∷ []) bytes (0 + 1) each.1 in
    top_level _ ∙ ap (λ s. outcome (finished s (length (b ∷ bytes)))) read ∙ ended (b ∷ bytes) (length (b ∷ bytes)) refl other
