-- Words of the laws on what the expansions of the shell make of texts.
use Rattle.std.specs.Prelude.{◌≡◌, ◌≢◌, ◌≤◌, ◌⊎◌, ℕ, false, List, [], ◌∷◌, ◌++◌, length}
use Rattle.em_glob.specs.declared.glyph.Glyph.{Glyph}
use Rattle.em_glob.specs.Patterns.{Matches, pieces}
use Rattle.em_fields.specs.declared.part.Part.{Part}
use Rattle.em_fields.specs.declared.part.Part.TheVariants.{Byte}

-- a byte that isn't quoted
abbrev pub open_byte : ℕ → Part
open_byte b = Byte (record { byte = b; quoted = false })

-- a space, a tab or a newline
abbrev pub IsSpace : ℕ → Type 0
IsSpace b = (b ≡ 32) ⊎ (b ≡ 9) ⊎ (b ≡ 10)

-- no space, tab or newline that isn't quoted
abbrev pub IsKept : Part → Type 0
IsKept p = (p ≢ open_byte 32) × (p ≢ open_byte 9) × (p ≢ open_byte 10)

abbrev pub EndsOtherwise : ℕ → List ℕ → Type 0
EndsOtherwise b text = (front : List ℕ) → text ≢ front ++ b ∷ []

abbrev pub MatchesAll : List Glyph → List ℕ → Type 0
MatchesAll pattern text = Matches (pieces pattern) text

-- what is left of a text without a part at its begin that matches: where no part does, all
pub record IsWithoutFront (better : ℕ → ℕ → Type 0) (pattern : List Glyph) (text rest : List ℕ) : Type 0 where
  pub cut : (front : List ℕ) → MatchesAll pattern front → (more : List ℕ) → text ≡ front ++ more →
      (best : List ℕ) × (text ≡ best ++ rest) × MatchesAll pattern best × better (length best) (length front)
  pub whole : ((front more : List ℕ) → text ≡ front ++ more → ¬ MatchesAll pattern front) → rest ≡ text

-- the same at its end
pub record IsWithoutEnd (better : ℕ → ℕ → Type 0) (pattern : List Glyph) (text rest : List ℕ) : Type 0 where
  pub cut : (end : List ℕ) → MatchesAll pattern end → (more : List ℕ) → text ≡ more ++ end →
      (best : List ℕ) × (text ≡ rest ++ best) × MatchesAll pattern best × better (length best) (length end)
  pub whole : ((end more : List ℕ) → text ≡ more ++ end → ¬ MatchesAll pattern end) → rest ≡ text

abbrev pub shorter : ℕ → ℕ → Type 0
shorter m n = m ≤ n

abbrev pub longer : ℕ → ℕ → Type 0
longer m n = n ≤ m
