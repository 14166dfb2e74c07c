-- What stands between single quotes.
use Rattle.std.proofs.Common.{◌≡◌, ◌≢◌, ℕ, suc, ◌+◌, ◌==◌, ◌&&◌, Bool, true, false, List, [], ◌∷◌, ◌++◌, length, length-append, add-zero, refl, ap, ◌∙◌, arith, append_assoc, append-nil}
use Rattle.std.specs.Prelude.{None, All}
use Rattle.std.specs.List.{AllByRecursion}
use Rattle.std.proofs.lemmas.Bool.{ne_eqb}
use Rattle.std.proofs.lemmas.List.Elements.{recursion_from_All}
use Rattle.em_lexeme.specs.declared.lexeme.Lexed.{Lexed}
use Rattle.em_lexeme.specs.declared.lexeme.Start.TheVariants.{Plain}
use Rattle.em_lexeme.specs.declared.lexeme.What.TheVariants.{WordStart, WordEnd, Bytes}
use Rattle.em_lexeme.specs.declared.frame.Frame.TheVariants.{InWord, Single}
use Rattle.em_lex.specs.declared.state.Lexer.{Lexer}
use Rattle.em_lex.specs.declared.state.Mode.TheVariants.{Ready, Gathering}
use Rattle.em_lexeme.specs.declared.spot.Spot.TheVariants.{Operand}
use Rattle.em_lex.specs.Alone.{quoted_word}
use Rattle.em_lex.specs.Steps.{lexeme}
use Rattle.em_lex.specs.Lexing.{next, run, byte_at, at_first, finished, read_through, outcome, lexed, lexed_in}
use Rattle.em_lex.specs.Modes.{ready, special, gathering, settled}
use Rattle.em_lex.specs.Heads.{entered}
use Rattle.em_lex.specs.Quotes.{step}

-- behind the first quote and these bytes
abbrev in_quotes : List ℕ → Lexer
in_quotes t = record { items = lexeme 0 0 (WordStart Plain) ∷ []; fault = None; frames = Single 0 ∷ InWord ∷ []; spot = Operand; mode = Gathering; backslash = false; start = 0; text = t; places = [] }

-- behind the second one, which stands at `at`
abbrev behind_quotes : List ℕ → ℕ → Lexer
behind_quotes t at = record { items = lexeme 0 0 (WordStart Plain) ∷ lexeme 0 at (Bytes true t) ∷ []; fault = None; frames = InWord ∷ []; spot = Operand; mode = Ready; backslash = false; start = 0; text = []; places = [] }

pub and_false : (x : Bool) → (x && false) ≡ false
and_false true = refl
and_false false = refl

opens : (within : List ℕ → Lexed) → next within at_first (byte_at 39 0) ≡ in_quotes []
unfolding step ready special entered
opens within = refl

keeps : (within : List ℕ → Lexed) (t : List ℕ) (b at : ℕ) → (b == 39) ≡ false → next within (in_quotes t) (byte_at b at) ≡ in_quotes (t ++ b ∷ [])
unfolding step gathering
keeps within t b at other = rw (and_false (b == 92), other) refl

closes : (within : List ℕ → Lexed) (t : List ℕ) (at : ℕ) → next within (in_quotes t) (byte_at 39 at) ≡ behind_quotes t at
unfolding step gathering ready special
closes within t at = rw (and_false (length t == 0)) refl

quoted : (within : List ℕ → Lexed) (t bytes : List ℕ) (at : ℕ) → AllByRecursion (λ b. b ≢ 39) bytes → run within (in_quotes t) at (bytes ++ 39 ∷ []) ≡ behind_quotes (t ++ bytes) (at + length bytes)
quoted within t [] at all = rw (append-nil t, add-zero at) (closes within t at)
quoted within t (b ∷ bs) at all =
    let other : (b == 39) ≡ false = ne_eqb _ _ all.0 in
    let further : at + 1 + length bs ≡ at + length (b ∷ bs) = omega arith in
    ap (λ s. run within s (at + 1) (bs ++ 39 ∷ [])) (keeps within t b at other) ∙ quoted within (t ++ b ∷ []) bs (at + 1) all.1
    ∙ ap (λ r. behind_quotes r (at + 1 + length bs)) (append_assoc t (b ∷ []) bs) ∙ ap (behind_quotes (t ++ b ∷ bs)) further

ended : (t : List ℕ) (at n : ℕ) → outcome (finished (behind_quotes t at) n) ≡ record { items = lexeme 0 0 (WordStart Plain) ∷ lexeme 0 at (Bytes true t) ∷ lexeme n n WordEnd ∷ []; stop = None }
unfolding finished settled
ended t at n = refl

pub level : (left : ℕ) (text : List ℕ) → lexed_in (suc left) text ≡ outcome (read_through (lexed_in left) at_first text)
unfolding lexed_in
level left text = refl

pub top_level : (line : List ℕ) → lexed line ≡ outcome (read_through (lexed_in 63) at_first line)
unfolding lexed
top_level line = level 63 line

pub quoted_law : (bytes : List ℕ) → All (λ b. b ≢ 39) bytes → lexed (39 ∷ bytes ++ 39 ∷ []) ≡ quoted_word bytes
quoted_law bytes all =
    let within = lexed_in 63 in
    let size : length (39 ∷ bytes ++ 39 ∷ []) ≡ length bytes + 2 = omega (arith, length-append bytes (39 ∷ [])) in
    let behind : 0 + 1 + length bytes ≡ length bytes + 1 = omega arith in
    let read : run within at_first 0 (39 ∷ bytes ++ 39 ∷ []) ≡ behind_quotes bytes (0 + 1 + length bytes) =
    ap (λ s. run within s (0 + 1) (bytes ++ 39 ∷ [])) (opens within) ∙ quoted within [] bytes (0 + 1) (recursion_from_All _ bytes all) in
    top_level _ ∙ ap (λ s. outcome (finished s (length (39 ∷ bytes ++ 39 ∷ [])))) read ∙ ended bytes (0 + 1 + length bytes) (length (39 ∷ bytes ++ 39 ∷ []))
    ∙ rw (size, behind) refl
