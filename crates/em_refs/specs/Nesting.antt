-- What brackets of references hold.
use Rattle.std.specs.Prelude.{◌≡◌, ◌⊎◌, ℕ, ◌+◌, ◌≤◌, ◌==◌, List, length, take, drop, count_by, slice_get, Some}
use Rattle.em_base.specs.Spans.{cut}
use Rattle.em_refs.specs.declared.part.Bracket.{Bracket}
use Rattle.em_refs.specs.declared.part.Part.{Part}
use Rattle.em_refs.specs.declared.part.Part.TheVariants.{Literal, Dollar, Ref}
use Rattle.em_refs.specs.Parts.{opening_of, closing_of, bracket_before}

abbrev pub count : ℕ → List ℕ → ℕ
count b bytes = count_by (λ c. c == b) bytes

-- no front of the bytes closes more than it opens
abbrev pub NeverCloses : Bracket → List ℕ → Type 0
NeverCloses bracket bytes = (n : ℕ) → count (closing_of bracket) (take n bytes) ≤ count (opening_of bracket) (take n bytes)

-- the brackets of this kind pair off
pub record IsBalanced (bracket : Bracket) (bytes : List ℕ) : Type 0 where
  pub equal : count (opening_of bracket) bytes ≡ count (closing_of bracket) bytes
  pub fronts : NeverCloses bracket bytes

-- in a reference with brackets those of their kind pair off
abbrev pub IsNested : List ℕ → Part → Type 0
IsNested text (Literal s) = Unit {0}
IsNested text Dollar = Unit {0}
IsNested text (Ref s) = (bracket : Bracket) → bracket_before text s ≡ Some bracket → IsBalanced bracket (cut text s)

-- a `$` stands at `at`, and it is the last byte, or a bracket stands behind it that nothing behind
-- it closes
pub record IsUnclosed (text : List ℕ) (at : ℕ) : Type 0 where
  pub dollar : slice_get text at ≡ Some 36
  pub unfinished : (at + 1 ≡ length text) ⊎ ((bracket : Bracket) × (slice_get text (at + 1) ≡ Some (opening_of bracket)) × NeverCloses bracket (drop (at + 2) text))
