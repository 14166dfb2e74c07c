-- Words of the laws on the parts of a text of make.
use Rattle.std.specs.Prelude.{◌≡◌, ◌≢◌, ◌≤◌, ◌==◌, All, ℕ, List, [], ◌∷◌, count_by, map, take, Option}
use Rattle.em_base.specs.Spans.{cut}
use Rattle.em_refs.specs.declared.part.Bracket.{Bracket}
use Rattle.em_refs.specs.declared.part.Part.{Part}
use Rattle.em_refs.specs.declared.part.Part.TheVariants.{Literal, Dollar, Ref}
use Rattle.em_refs.specs.Parts.{parted, left, bracket_before}

-- what a part is: plain text, `$$`, or a reference to a name, with or without brackets
pub data Seen : Type 0 where
  Plain : List ℕ → Seen
  Sign : Seen
  Named : Option Bracket → List ℕ → Seen

abbrev pub seen_in : List ℕ → Part → Seen
seen_in text (Literal s) = Plain (cut text s)
seen_in text Dollar = Sign
seen_in text (Ref s) = Named (bracket_before text s) (cut text s)

-- the parts in order, and what stands from the first reference on that isn't closed
abbrev pub reading : List ℕ → List Seen × List ℕ
reading text = (map (seen_in text) (parted text).parts, left text (parted text).unclosed)

abbrev pub behind : Seen → List Seen × List ℕ → List Seen × List ℕ
behind s r = (s ∷ r.0, r.1)

abbrev pub HasNo : ℕ → List ℕ → Type 0
HasNo c bytes = All (λ b. b ≢ c) bytes

-- the end of the text, or a `$`
abbrev pub Ends : List ℕ → Type 0
Ends [] = Unit {0}
Ends (b ∷ bs) = b ≡ 36

abbrev pub how_many : ℕ → List ℕ → ℕ
how_many c bytes = count_by (λ b. b == c) bytes

-- no front of the bytes has more of these that close than of those that open
abbrev pub NeverCloses : ℕ → ℕ → List ℕ → Type 0
NeverCloses opens closes bytes = (n : ℕ) → how_many closes (take n bytes) ≤ how_many opens (take n bytes)

abbrev pub PairsOff : ℕ → ℕ → List ℕ → Type 0
PairsOff opens closes bytes = (how_many closes bytes ≡ how_many opens bytes) × NeverCloses opens closes bytes
