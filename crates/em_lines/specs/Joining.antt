-- How the lines of a file become logical lines: a backslash at a line's end joins it with the next
-- one.
--     rows bytes           the lines of the file, without their newlines
--     grouped rows         those that are joined, together
--     joined_text group    the text of a logical line
use Rattle.std.specs.Prelude.{ℕ, ◌-◌, ◌==◌, Bool, false, List, [], ◌∷◌, ◌++◌, length, take, if◌then◌else◌}
use Rattle.std.specs.List.{slice_split, flat_map}
use Rattle.em_base.specs.Blanks.{trimmed_start, trimmed_end}

-- what stands between newlines, the last one being what stands behind the last newline
abbrev pub rows : List ℕ → List (List ℕ)
rows bytes = slice_split (λ b. b == 10) bytes

-- the last byte is a backslash
abbrev pub goes_on : List ℕ → Bool
goes_on [] = false
goes_on (b ∷ []) = b == 92
goes_on (b ∷ c ∷ bs) = goes_on (c ∷ bs)

-- a line in front of those that it is joined with; the last line of a file is joined with nothing
abbrev pub onto : List ℕ → List (List (List ℕ)) → List (List (List ℕ))
onto row [] = (row ∷ []) ∷ []
onto row (group ∷ groups) = (row ∷ group) ∷ groups

abbrev pub grouped : List (List ℕ) → List (List (List ℕ))
grouped [] = []
grouped (row ∷ rows) = if goes_on row then onto row (grouped rows) else (row ∷ []) ∷ grouped rows

-- a tab comes first: the line is one of a recipe
abbrev pub is_recipe : List (List ℕ) → Bool
is_recipe ((b ∷ bs) ∷ rows) = b == 9
is_recipe _ = false

-- a recipe keeps its backslashes and newlines; of the lines that are joined to it one tab at the
-- begin is dropped
abbrev pub untabbed : List ℕ → List ℕ
untabbed [] = []
untabbed (b ∷ bs) = if b == 9 then bs else b ∷ bs

abbrev pub recipe_text : List (List ℕ) → List ℕ
recipe_text [] = []
recipe_text (row ∷ rows) = untabbed row ++ flat_map (λ r. 10 ∷ untabbed r) rows

-- elsewhere the backslash, the newline and the blanks round them become one space
abbrev pub without_last : List ℕ → List ℕ
without_last row = take (length row - 1) row

abbrev pub spliced : List (List ℕ) → List ℕ
spliced [] = []
spliced (row ∷ []) = row
spliced (row ∷ next ∷ rows) = trimmed_end (without_last row) ++ 32 ∷ trimmed_start (spliced (next ∷ rows))

abbrev pub joined_text : List (List ℕ) → List ℕ
joined_text group = if is_recipe group then recipe_text group else spliced group
