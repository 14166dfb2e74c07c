-- The words of a text: its longest runs without blanks.
--     AreWords text ss    the spans are the words of the text, in order
--     words_of text       the words, as texts
--     joined ws           the words with one space between each two
use Rattle.std.specs.Prelude.{◌≡◌, ℕ, ◌-◌, ◌<◌, ◌≤◌, ◌⊎◌, nat_lt, true, false, List, [], ◌∷◌, length, All, Any, slice_index}
use Rattle.std.specs.List.{slice_split, filter, join_with_byte}
use Rattle.em_base.specs.declared.place.Span.{Span}
use Rattle.em_base.specs.Blanks.{is_blank}

-- a run without blanks that isn't empty, and that ends on both sides at a blank or at an end of the
-- text
pub record IsWord (text : List ℕ) (s : Span) : Type 0 where
  pub filled : s.start < s.end
  pub within : s.end ≤ length text
  pub plain : (i : ℕ) → s.start ≤ i → i < s.end → is_blank (slice_index text i) ≡ false
  pub before : (s.start ≡ 0) ⊎ (is_blank (slice_index text (s.start - 1)) ≡ true)
  pub behind : (s.end ≡ length text) ⊎ (is_blank (slice_index text s.end) ≡ true)

-- no word holds both the byte at `at` and the one before it
abbrev pub IsApart : List ℕ → ℕ → Type 0
IsApart text at = (at ≡ 0) ⊎ (at < length text → is_blank (slice_index text at) ≡ true)

-- each span stands behind the one before
abbrev pub Rising : ℕ → List Span → Type 0
Rising from [] = Unit {0}
Rising from (s ∷ ss) = (from ≤ s.start) × Rising s.end ss

-- some span holds the byte i
abbrev pub IsHeld : ℕ → List Span → Type 0
IsHeld i ss = Any (λ s. (s.start ≤ i) × (i < s.end)) ss

-- each is a word, they stand in order, and together they hold every byte that isn't a blank
pub record AreWords (text : List ℕ) (ss : List Span) : Type 0 where
  pub words : All (IsWord text) ss
  pub rising : Rising 0 ss
  pub whole : (i : ℕ) → i < length text → is_blank (slice_index text i) ≡ false → IsHeld i ss

-- what is left between blanks, where it isn't empty
abbrev pub words_of : List ℕ → List (List ℕ)
words_of text = filter (λ w. nat_lt 0 (length w)) (slice_split is_blank text)

abbrev pub joined : List (List ℕ) → List ℕ
joined ws = join_with_byte 32 ws
