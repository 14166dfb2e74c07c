-- What stands between double quotes.
use Rattle.std.proofs.Common.{◌≡◌, ◌≢◌, ◌⊎◌, inl, inr, ℕ, suc, ◌+◌, ◌==◌, ◌&&◌, ◌||◌, Bool, true, false, List, [], ◌∷◌, ◌++◌, length, length-append, add-zero, refl, ap, ◌∙◌, arith, append_assoc, append-nil, subst, sym}
use Rattle.std.specs.Prelude.{None, All, map, codes}
use Rattle.std.specs.List.{AllByRecursion}
use Rattle.std.proofs.lemmas.Bool.{ne_eqb}
use Rattle.std.proofs.lemmas.List.Elements.{recursion_from_All}
use Rattle.em_lexeme.specs.declared.lexeme.Lexed.{Lexed}
use Rattle.em_lexeme.specs.declared.lexeme.Start.TheVariants as start
use Rattle.em_lexeme.specs.declared.lexeme.What.{What}
use Rattle.em_lexeme.specs.declared.lexeme.What.TheVariants.{WordStart, WordEnd, Bytes, Semicolon, CaseEnd, Ampersand, AndIf, OrIf, Pipe, Great, DoubleGreat, GreatAnd}
use Rattle.em_lexeme.specs.declared.frame.Frame.TheVariants.{InWord}
use Rattle.em_lex.specs.Steps.{lexeme}
use Rattle.em_lex.specs.Lexing.{next, run, byte_at, at_first, finished, read_through, outcome, lexed, lexed_in}
use Rattle.em_lex.specs.Modes.{between, ready, special, operating, gathering, settled}
use Rattle.em_lex.specs.Brackets.{operated}
use Rattle.em_lex.specs.Heads.{entered}
use Rattle.em_lex.specs.Quotes.{escaped, step}
use Rattle.em_shell_laws.specs.Quotes.{Inside, Itself, Escaped, Kept, Joined, written, meant, Acts, MayStand, all_written, all_meant, one_word, kinds}

abbrev TypeOf : {X : Type 0} → X → Type 0
TypeOf {X} x = X

abbrev State : Type 0
State = TypeOf at_first

abbrev Within : Type 0
Within = List ℕ → Lexed

-- behind the first quote and these bytes
abbrev in_quotes : Within → List ℕ → State
in_quotes within t = record (next within at_first (byte_at 34 0)) { text = t }

-- behind a backslash then
abbrev slashed : Within → List ℕ → State
slashed within t = record (in_quotes within t) { backslash = true }

-- behind the second quote, which stands at `at`
abbrev behind_quotes : Within → List ℕ → ℕ → State
behind_quotes within t at =
    record (in_quotes within []) { items = lexeme 0 0 (WordStart start.Plain) ∷ lexeme 0 at (Bytes true t) ∷ []; frames = InWord ∷ []; mode = at_first.mode }

and_false : (x : Bool) → (x && false) ≡ false
and_false true = refl
and_false false = refl

-- ---- one byte

module _ (within : Within) (t : List ℕ) (at : ℕ) where
  keeps : (b : ℕ) → (b == 34) ≡ false → (b == 36) ≡ false → (b == 96) ≡ false → (b == 92) ≡ false → next within (in_quotes within t) (byte_at b at) ≡ in_quotes within (t ++ b ∷ [])
  unfolding step ready special entered gathering
  keeps b quote dollar back slash = rw (slash, quote, dollar, back) refl

  slashes : next within (in_quotes within t) (byte_at 92 at) ≡ slashed within t
  unfolding step ready special entered gathering
  slashes = refl

  joins : next within (slashed within t) (byte_at 10 at) ≡ in_quotes within t
  unfolding step ready special entered
  joins = refl

  stays : (b : ℕ) → (b == 10) ≡ false → (b == 34) ≡ false → (b == 36) ≡ false → (b == 96) ≡ false → (b == 92) ≡ false
      → next within (slashed within t) (byte_at b at) ≡ in_quotes within ((t ++ 92 ∷ []) ++ b ∷ [])
  unfolding step ready special entered escaped
  stays b newline quote dollar back slash = rw (newline, quote, dollar, back, slash) refl

  drops : (b : ℕ) → Acts b → next within (slashed within t) (byte_at b at) ≡ in_quotes within (t ++ b ∷ [])
  unfolding step ready special entered escaped
  drops b (inl e) = subst (λ c. next within (slashed within t) (byte_at c at) ≡ in_quotes within (t ++ c ∷ [])) (sym e) refl
  drops b (inr (inl e)) = subst (λ c. next within (slashed within t) (byte_at c at) ≡ in_quotes within (t ++ c ∷ [])) (sym e) refl
  drops b (inr (inr (inl e))) = subst (λ c. next within (slashed within t) (byte_at c at) ≡ in_quotes within (t ++ c ∷ [])) (sym e) refl
  drops b (inr (inr (inr e))) = subst (λ c. next within (slashed within t) (byte_at c at) ≡ in_quotes within (t ++ c ∷ [])) (sym e) refl

  closes : next within (in_quotes within t) (byte_at 34 at) ≡ behind_quotes within t at
  unfolding step ready special entered gathering
  closes = rw (and_false (length t == 0)) refl

-- ---- one part

module _ (within : Within) (t : List ℕ) (at : ℕ) (rest : List ℕ) where
  two : (b : ℕ) (u : List ℕ) → next within (slashed within t) (byte_at b (at + 1)) ≡ in_quotes within u → run within (in_quotes within t) at (92 ∷ b ∷ rest) ≡ run within (in_quotes within u) (at + 1 + 1) rest
  two b u e =
      ap (λ (s : State). run within (next within s (byte_at b (at + 1))) (at + 1 + 1) rest) (slashes within t at)
      ∙ ap (λ (s : State). run within s (at + 1 + 1) rest) e

  no : (b : ℕ) → ¬ Acts b → ((b == 34) ≡ false) × ((b == 36) ≡ false) × ((b == 96) ≡ false) × ((b == 92) ≡ false)
  no b not_one = (ne_eqb b 34 (λ e. not_one (inl e)), ne_eqb b 36 (λ e. not_one (inr (inl e))), ne_eqb b 96 (λ e. not_one (inr (inr (inl e)))), ne_eqb b 92 (λ e. not_one (inr (inr (inr e)))))

  part : (p : Inside) → MayStand p → run within (in_quotes within t) at (written p ++ rest) ≡ run within (in_quotes within (t ++ meant p)) (at + length (written p)) rest
  part (Itself b) may =
      let n = no b may in
      ap (λ (s : State). run within s (at + 1) rest) (keeps within t at b n.0 n.1 n.2 n.3)
  part (Escaped b) may = two b (t ++ b ∷ []) (drops within t (at + 1) b may) ∙ ap (λ i. run within (in_quotes within (t ++ b ∷ [])) i rest) (let e : at + 1 + 1 ≡ at + 2 = omega arith in e)
  part (Kept b) may =
      let n = no b may.0 in
      two b ((t ++ 92 ∷ []) ++ b ∷ []) (stays within t (at + 1) b (ne_eqb b 10 may.1) n.0 n.1 n.2 n.3)
      ∙ ap (λ u. run within (in_quotes within u) (at + 1 + 1) rest) (append_assoc t (92 ∷ []) (b ∷ []))
      ∙ ap (λ i. run within (in_quotes within (t ++ 92 ∷ b ∷ [])) i rest) (let e : at + 1 + 1 ≡ at + 2 = omega arith in e)
  part Joined may = two 10 t (joins within t (at + 1))
      ∙ ap (λ u. run within (in_quotes within u) (at + 1 + 1) rest) (sym (append-nil t))
      ∙ ap (λ i. run within (in_quotes within (t ++ [])) i rest) (let e : at + 1 + 1 ≡ at + 2 = omega arith in e)

-- ---- all parts

quoted : (within : Within) (t : List ℕ) (parts : List Inside) (at : ℕ) → AllByRecursion MayStand parts
    → run within (in_quotes within t) at (all_written parts ++ 34 ∷ []) ≡ behind_quotes within (t ++ all_meant parts) (at + length (all_written parts))
quoted within t [] at all = closes within t at ∙ ap (λ u. behind_quotes within u at) (sym (append-nil t)) ∙ ap (behind_quotes within (t ++ [])) (sym (add-zero at))
quoted within t (p ∷ parts) at all =
    let rest = all_written parts ++ 34 ∷ [] in
    let further : at + length (written p) + length (all_written parts) ≡ at + length (written p ++ all_written parts) = omega (arith, length-append (written p) (all_written parts)) in
    ap (run within (in_quotes within t) at) (append_assoc (written p) (all_written parts) (34 ∷ []))
    ∙ part within t at rest p all.0
    ∙ quoted within (t ++ meant p) parts (at + length (written p)) all.1
    ∙ ap (λ u. behind_quotes within u (at + length (written p) + length (all_written parts))) (append_assoc t (meant p) (all_meant parts))
    ∙ ap (behind_quotes within (t ++ (meant p ++ all_meant parts))) further

ended : (within : Within) (t : List ℕ) (at n : ℕ) → outcome (finished (behind_quotes within t at) n) ≡ record { items = lexeme 0 0 (WordStart start.Plain) ∷ lexeme 0 at (Bytes true t) ∷ lexeme n n WordEnd ∷ []; stop = None }
unfolding finished settled step ready special entered
ended within t at n = refl

level : (left : ℕ) (text : List ℕ) → lexed_in (suc left) text ≡ outcome (read_through (lexed_in left) at_first text)
unfolding lexed_in
level left text = refl

top_level : (line : List ℕ) → lexed line ≡ outcome (read_through (lexed_in 63) at_first line)
unfolding lexed
top_level line = level 63 line

opens : (within : Within) → next within at_first (byte_at 34 0) ≡ in_quotes within []
unfolding step ready special entered
opens within = refl

pub double_quoted : (parts : List Inside) → All MayStand parts → lexed (34 ∷ all_written parts ++ 34 ∷ []) ≡ one_word (length (all_written parts)) (all_meant parts)
double_quoted parts all =
    let within = lexed_in 63 in
    let bytes = all_written parts in
    let size : length (34 ∷ bytes ++ 34 ∷ []) ≡ length bytes + 2 = omega (arith, length-append bytes (34 ∷ [])) in
    let behind : 0 + 1 + length bytes ≡ length bytes + 1 = omega arith in
    let read : run within at_first 0 (34 ∷ bytes ++ 34 ∷ []) ≡ behind_quotes within (all_meant parts) (0 + 1 + length bytes) =
    ap (λ (s : State). run within s (0 + 1) (bytes ++ 34 ∷ [])) (opens within) ∙ quoted within [] parts (0 + 1) (recursion_from_All MayStand parts all) in
    top_level (34 ∷ bytes ++ 34 ∷ []) ∙ ap (λ (s : State). outcome (finished s (length (34 ∷ bytes ++ 34 ∷ [])))) read
    ∙ ended within (all_meant parts) (0 + 1 + length bytes) (length (34 ∷ bytes ++ 34 ∷ []))
    ∙ rw (size, behind) refl

-- ---- operators

abbrev read_in : (List ℕ → Lexed) → List ℕ → List What
read_in within text = map (λ l. l.what) (outcome (read_through within at_first text)).items

kinds_read : (text : List ℕ) → kinds text ≡ read_in (lexed_in 63) text
kinds_read text = ap (λ (l : Lexed). map (λ x. x.what) l.items) (top_level text)

three_semicolons : (within : Within) → read_in within (codes ";;;") ≡ CaseEnd ∷ Semicolon ∷ []
unfolding step ready between operating operated settled finished
three_semicolons within = refl

three_ampersands : (within : Within) → read_in within (codes "&&&") ≡ AndIf ∷ Ampersand ∷ []
unfolding step ready between operating operated settled finished
three_ampersands within = refl

three_bars : (within : Within) → read_in within (codes "|||") ≡ OrIf ∷ Pipe ∷ []
unfolding step ready between operating operated settled finished
three_bars within = refl

three_greats : (within : Within) → read_in within (codes ">>>") ≡ DoubleGreat ∷ Great ∷ []
unfolding step ready between operating operated settled finished
three_greats within = refl

great_and : (within : Within) → read_in within (codes ">>&") ≡ DoubleGreat ∷ Ampersand ∷ []
unfolding step ready between operating operated settled finished
great_and within = refl

duplicates : (within : Within) → read_in within (codes ">&&") ≡ GreatAnd ∷ Ampersand ∷ []
unfolding step ready between operating operated settled finished
duplicates within = refl

pub case_end : kinds (codes ";;;") ≡ CaseEnd ∷ Semicolon ∷ []
case_end = kinds_read (codes ";;;") ∙ three_semicolons (lexed_in 63)

pub and_if : kinds (codes "&&&") ≡ AndIf ∷ Ampersand ∷ []
and_if = kinds_read (codes "&&&") ∙ three_ampersands (lexed_in 63)

pub or_if : kinds (codes "|||") ≡ OrIf ∷ Pipe ∷ []
or_if = kinds_read (codes "|||") ∙ three_bars (lexed_in 63)

pub double_great : kinds (codes ">>>") ≡ DoubleGreat ∷ Great ∷ []
double_great = kinds_read (codes ">>>") ∙ three_greats (lexed_in 63)

pub great_apart : kinds (codes ">>&") ≡ DoubleGreat ∷ Ampersand ∷ []
great_apart = kinds_read (codes ">>&") ∙ great_and (lexed_in 63)

pub duplicate : kinds (codes ">&&") ≡ GreatAnd ∷ Ampersand ∷ []
duplicate = kinds_read (codes ">&&") ∙ duplicates (lexed_in 63)
