-- A line with its references blotted out, so that what stands outside references can be looked for
-- in it.
--     shape text     the text, with each byte of a reference as an `x` (120); what stands where stays where it is
--     colons_in text the colons outside references, each behind a blank
use Rattle.std.specs.Prelude.{ℕ, ◌==◌, List, [], ◌∷◌, ◌++◌, map, Option, Some, None, if◌then◌else◌}
use Rattle.std.specs.List.{flat_map}
use Rattle.em_base.specs.Spans.{cut}
use Rattle.em_refs.specs.declared.part.Bracket.{Bracket}
use Rattle.em_refs.specs.declared.part.Part.{Part}
use Rattle.em_refs.specs.declared.part.Part.TheVariants.{Literal, Dollar, Ref}
use Rattle.em_refs.specs.Parts.{parted, left, bracket_before}

abbrev pub blotted : List ℕ → List ℕ
blotted text = map (λ b. 120) text

-- `$` and a name of one byte, or `$`, a bracket, the name and the other bracket
abbrev pub blotted_reference : Option Bracket → List ℕ → List ℕ
blotted_reference None name = 120 ∷ blotted name
blotted_reference (Some bracket) name = 120 ∷ 120 ∷ blotted name ++ 120 ∷ []

abbrev pub part_shape : List ℕ → Part → List ℕ
part_shape text (Literal s) = cut text s
part_shape text Dollar = 120 ∷ 120 ∷ []
part_shape text (Ref s) = blotted_reference (bracket_before text s) (cut text s)

-- a reference that isn't closed goes on to the end
unfoldable pub shape : List ℕ → List ℕ
shape text = flat_map (part_shape text) (parted text).parts ++ blotted (left text (parted text).unclosed)

abbrev pub colons_of : List ℕ → List ℕ
colons_of [] = []
colons_of (b ∷ bs) = if b == 58 then 32 ∷ 58 ∷ colons_of bs else colons_of bs

unfoldable pub colons_in : List ℕ → List ℕ
colons_in text = colons_of (shape text)
