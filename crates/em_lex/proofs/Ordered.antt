-- The tokens of lexemes that stand one behind the other.
use Rattle.std.proofs.Common.{◌≡◌, ◌≢◌, ℕ, zero, suc, ◌+◌, ◌-◌, ◌<◌, ◌≤◌, ◌==◌, true, false, cond, List, [], ◌∷◌, ◌++◌, length, refl, sym, ◌∙◌, arith}
use Rattle.std.specs.Prelude.{Option, None, Some, IfOk}
use Rattle.std.proofs.lemmas.Bool.{eqb-true, eq-eqb}
use Rattle.em_lexeme.specs.declared.lexeme.Lexeme.{Lexeme}
use Rattle.em_lexeme.specs.declared.lexeme.TokenKind.{TokenKind}
use Rattle.em_lexeme.specs.declared.lexeme.TokenKind.TheVariants.{Word}
use Rattle.em_lexeme.specs.declared.lexeme.What.{What}
use Rattle.em_lexeme.specs.declared.lexeme.What.TheVariants.{WordStart, WordEnd}
use Rattle.em_lexeme.specs.declared.no.LexNo.{LexNo}
use Rattle.em_lexeme.specs.Outer.{token, open_behind, began, token_at, tokens_from}
use Rattle.em_lex.specs.Tokens.{tokens_or, tokens_of}
use Rattle.em_lex.specs.Lexing.{lexed}
use Rattle.em_lex.specs.Standing.{InOrder}
use Rattle.em_lex.proofs.Fits.{decide, Sized, least, Laid}
use Rattle.em_lex.proofs.Outcomes.{line_lexes}

-- before a lexeme at a or further on, with n words open: outside of words the last token ends at lo
-- or before; else the outermost word began at from, behind it
record Waiting (lo a m n from : ℕ) : Type 0 where
  outside : n ≡ 0 → lo ≤ a
  inside : n ≢ 0 → (lo ≤ from) × (from < m) × (from ≤ a)

not_equal : (a b : ℕ) → (a == b) ≡ false → a ≢ b
not_equal a b isnt = λ same. let bad : true ≡ false = sym (eq-eqb a b same) ∙ isnt in absurd cc

started : (l : Lexeme) (ls : List Lexeme) (n from lo a m e : ℕ) → a ≤ l.span.start → l.span.start ≡ l.span.end → Waiting lo a m n from
    → ((lo' : ℕ) → Waiting lo' l.span.end (l.span.start + 1) (n + 1) (cond (n == 0) l.span.start from) → InOrder lo' (tokens_from (n + 1) (cond (n == 0) l.span.start from) ls) e)
    → InOrder lo (tokens_from (n + 1) (cond (n == 0) l.span.start from) ls) e
started l ls n from lo a m e near same h go =
    let at = l.span.start in
    let within : (lo ≤ cond (n == 0) at from) × (cond (n == 0) at from < at + 1) × (cond (n == 0) at from ≤ l.span.end) =
    decide (λ f. (lo ≤ f) × (f < at + 1) × (f ≤ l.span.end)) (n == 0) at from
    (λ is. let before = h.outside (eqb-true n 0 is) in (omega arith, omega arith, omega arith))
    (λ isnt. let before = h.inside (not_equal n 0 isnt) in (before.0, omega arith, omega arith)) in
    go lo (record { outside = λ none. absurd (omega arith); inside = λ _. within })

ended : (l : Lexeme) (ls : List Lexeme) (n from lo a m e : ℕ) → a ≤ l.span.start → l.span.start ≡ l.span.end → m ≤ l.span.start → Waiting lo a m n from
    → ((lo' : ℕ) → Waiting lo' l.span.end m (n - 1) from → InOrder lo' (tokens_from (n - 1) from ls) e)
    → InOrder lo (cond (n == 1) (token from l.span.end Word ∷ []) [] ++ tokens_from (n - 1) from ls) e
ended l ls n from lo a m e near same behind h go =
    decide (λ ts. InOrder lo (ts ++ tokens_from (n - 1) from ls) e) (n == 1) (token from l.span.end Word ∷ []) []
    (λ is. let one : n ≡ 1 = eqb-true n 1 is in
    let before = h.inside (λ none. absurd (omega arith)) in
    (before.0, omega arith, go l.span.end (record { outside = λ _. omega arith; inside = λ some. absurd (some (omega arith)) })))
    (λ isnt. let more : n ≢ 1 = not_equal n 1 isnt in
    go lo (record {
      outside = λ none. (let zero : n ≡ 0 = omega arith in let before = h.outside zero in omega arith);
      inside = λ some. (let before = h.inside (λ none. some (omega arith)) in (before.0, before.1, omega arith));
    }))

other : (l : Lexeme) (kind : TokenKind) (ls : List Lexeme) (n from lo a m e : ℕ) → a ≤ l.span.start → l.span.start < l.span.end → Waiting lo a m n from
    → ((lo' : ℕ) → Waiting lo' l.span.end m n from → InOrder lo' (tokens_from n from ls) e)
    → InOrder lo (cond (n == 0) (token l.span.start l.span.end kind ∷ []) [] ++ tokens_from n from ls) e
other l kind ls n from lo a m e near some h go =
    decide (λ ts. InOrder lo (ts ++ tokens_from n from ls) e) (n == 0) (token l.span.start l.span.end kind ∷ []) []
    (λ is. let before = h.outside (eqb-true n 0 is) in
    (omega arith, some, go l.span.end (record { outside = λ _. omega arith; inside = λ more. absurd (more (eqb-true n 0 is)) })))
    (λ isnt. let before = h.inside (not_equal n 0 isnt) in
    go lo (record { outside = λ none. absurd (not_equal n 0 isnt none); inside = λ _. (before.0, before.1, omega arith) }))

one_more : (w : What) (l : Lexeme) (ls : List Lexeme) (n from lo a m e : ℕ) → a ≤ l.span.start → Sized w m l.span.start l.span.end → Waiting lo a m n from
    → ((lo' : ℕ) → Waiting lo' l.span.end (least w l.span.start m) (open_behind w n) (began w n l.span.start from) → InOrder lo' (tokens_from (open_behind w n) (began w n l.span.start from) ls) e)
    → InOrder lo (token_at w n from l ++ tokens_from (open_behind w n) (began w n l.span.start from) ls) e
one_more (WordStart w) l ls n from lo a m e near is h go = started l ls n from lo a m e near is h go
one_more WordEnd l ls n from lo a m e near is h go = ended l ls n from lo a m e near is.0 is.1 h go
one_more _ l ls n from lo a m e near is h go = other l _ ls n from lo a m e near is h go

in_order : (ls : List Lexeme) (n from lo a m e k : ℕ) → Laid a m ls e k → Waiting lo a m n from → InOrder lo (tokens_from n from ls) e
in_order [] zero from lo a m e k laid h = let before = h.outside refl in let near = laid.0 in omega arith
in_order [] (suc n) from lo a m e k laid h = let before = h.inside (λ none. absurd (omega arith)) in let near = laid.0 in omega arith
in_order (l ∷ ls) n from lo a m e k laid h =
    one_more l.what l ls n from lo a m e laid.0 laid.1 h
    (λ lo' more. in_order ls (open_behind l.what n) (began l.what n l.span.start from) lo' l.span.end (least l.what l.span.start m) e k laid.2 more)

order_or : (stop : Option LexNo) (items : List Lexeme) (n k : ℕ) → Laid 0 0 items n k → IfOk (tokens_or stop items) (λ ts. InOrder 0 ts n)
order_or None items n k laid = in_order items 0 0 0 0 0 n k laid (record { outside = λ _. omega arith; inside = λ some. absurd (some refl) })
order_or (Some fault) items n k laid = tt

pub line_order : (line : List ℕ) → IfOk (tokens_of line) (λ ts. InOrder 0 ts (length line))
unfolding tokens_of
line_order line = order_or (lexed line).stop (lexed line).items (length line) (length line + 1) (line_lexes line).items
