-- Lines of recipes that go on: a backslash and a newline stay, but within a reference, where they
-- are a blank as outside of recipes.
--     folded bytes              each backslash-newline, with the blanks round it, as one space
--     folded_references text    a line with its references so; what isn't closed is no reference
use Rattle.std.specs.Prelude.{ℕ, List, [], ◌∷◌, ◌++◌, Option, Some, None, if◌then◌else◌}
use Rattle.std.specs.List.{flat_map}
use Rattle.em_base.specs.Blanks.{trimmed_start, trimmed_end}
use Rattle.em_base.specs.Spans.{cut}
use Rattle.em_refs.specs.declared.part.Part.{Part}
use Rattle.em_refs.specs.declared.part.Part.TheVariants.{Literal, Dollar, Ref}
use Rattle.em_refs.specs.Parts.{parted, source, left, bracket_before, bracketed}
use Rattle.em_lines.specs.Joining.{rows, goes_on, without_last}

-- a newline without a backslash in front stays
abbrev pub folded_rows : List (List ℕ) → List ℕ
folded_rows [] = []
folded_rows (row ∷ []) = row
folded_rows (row ∷ next ∷ rows) =
    if goes_on row then trimmed_end (without_last row) ++ 32 ∷ trimmed_start (folded_rows (next ∷ rows))
    else row ++ 10 ∷ folded_rows (next ∷ rows)

abbrev pub folded : List ℕ → List ℕ
folded bytes = folded_rows (rows bytes)

abbrev pub folded_part : List ℕ → Part → List ℕ
folded_part text (Literal s) = source text (Literal s)
folded_part text Dollar = source text Dollar
folded_part text (Ref s) = bracketed (bracket_before text s) (folded (cut text s))

unfoldable pub folded_references : List ℕ → List ℕ
folded_references text = flat_map (folded_part text) (parted text).parts ++ left text (parted text).unclosed
