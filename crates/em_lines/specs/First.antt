-- The first logical line of a file, and what comes behind it.
--     rows_in rest        the lines of what stands behind a newline, if there was one
--     first_group rows    the lines that are joined to be the first logical line
--     behind_first rows   the lines behind those
use Rattle.std.specs.Prelude.{ℕ, List, [], ◌∷◌, Option, Some, None, if◌then◌else◌}
use Rattle.em_lines.specs.Joining.{rows, goes_on}

abbrev pub rows_in : Option (List ℕ) → List (List ℕ)
rows_in None = []
rows_in (Some bytes) = rows bytes

-- the lines that are joined with a line, and those behind them
abbrev pub joined_to : List ℕ → List (List ℕ) → List (List ℕ)
joined_to row [] = []
joined_to row (next ∷ rows) = if goes_on row then next ∷ joined_to next rows else []

abbrev pub left_by : List ℕ → List (List ℕ) → List (List ℕ)
left_by row [] = []
left_by row (next ∷ rows) = if goes_on row then left_by next rows else next ∷ rows

abbrev pub first_group : List (List ℕ) → List (List ℕ)
first_group [] = []
first_group (row ∷ rows) = row ∷ joined_to row rows

abbrev pub behind_first : List (List ℕ) → List (List ℕ)
behind_first [] = []
behind_first (row ∷ rows) = left_by row rows
