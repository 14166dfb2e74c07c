-- Where the tokens and the fault of a line stand in it.
use Rattle.std.specs.Prelude.{◌≡◌, ◌⊎◌, ℕ, ◌+◌, ◌<◌, ◌≤◌, ◌==◌, ◌||◌, Bool, true, List, [], ◌∷◌, length, slice_index}
use Rattle.em_lexeme.specs.Faults.{redirects}
use Rattle.em_lexeme.specs.declared.lexeme.Lexeme.{Lexeme}
use Rattle.em_lexeme.specs.declared.lexeme.Token.{Token}
use Rattle.em_lexeme.specs.declared.no.LexNo.{LexNo}
use Rattle.em_lexeme.specs.declared.no.LexNo.TheVariants.{Unclosed, Refused, NoMemory}

-- tokens between two places, one behind the other, each of one byte at least
abbrev pub InOrder : ℕ → List Token → ℕ → Type 0
InOrder from [] to = from ≤ to
InOrder from (t ∷ ts) to = (from ≤ t.span.start) × (t.span.start < t.span.end) × InOrder t.span.end ts to

-- `'`, `"` and the backquote; `(` and `{`; the backslash and the newline, which may stand before
-- these two and are dropped there
abbrev pub is_quote : ℕ → Bool
is_quote b = (b == 39) || (b == 34) || (b == 96)

abbrev pub is_bracket : ℕ → Bool
is_bracket b = (b == 40) || (b == 123)

abbrev pub is_passed : ℕ → Bool
is_passed b = (b == 92) || (b == 10)

-- only such bytes stand from one place up to another
abbrev pub Passed : List ℕ → ℕ → ℕ → Type 0
Passed line from to = (k : ℕ) → from ≤ k → k < to → is_passed (slice_index line k) ≡ true

-- a `$` with its bracket behind it
pub record OpensValue (line : List ℕ) (at : ℕ) : Type 0 where
  pub dollar : slice_index line at ≡ 36
  pub behind : ℕ
  pub further : at < behind
  pub within : behind < length line
  pub bracket : is_bracket (slice_index line behind) ≡ true
  pub passed : Passed line (at + 1) behind

-- what must be closed opens there
pub record Opens (line : List ℕ) (at : ℕ) : Type 0 where
  pub within : at < length line
  pub mark : (is_quote (slice_index line at) ≡ true) ⊎ OpensValue line at

-- a fault stands within the line, and at an opener where that isn't closed
abbrev pub Stands : List ℕ → LexNo → Type 0
Stands line (Unclosed at) = Opens line at
Stands line (Refused construct at) = at < length line
Stands line NoMemory = ⊥

-- it ends at a place or before, or a redirection begins there with it
abbrev pub StandsUpTo : ℕ → Lexeme → Type 0
StandsUpTo at l = (l.span.end ≤ at) ⊎ ((l.span.start ≡ at) × (redirects l.what ≡ true))
