-- The logical lines of a makefile, each with the place of its first line, up to the first one that
-- is too long.
--     joined file bytes      with their comments
--     logical file bytes     without
--     all_lines file bytes   the latter, or the place of the first one that is too long
use Rattle.std.specs.Prelude.{ℕ, ◌+◌, nat_lt, min, Bool, List, [], ◌∷◌, length, Option, Some, None, Result, Ok, Err, if◌then◌else◌}
use Rattle.em_base.specs.declared.place.Place.{Place}
use Rattle.em_lines.specs.declared.line.Line.{Line}
use Rattle.em_lines.specs.declared.line.Lines.{Lines}
use Rattle.em_lines.specs.declared.no.LinesNo.{LinesNo}
use Rattle.em_lines.specs.declared.no.LinesNo.TheVariants.{TooLong}
use Rattle.em_lines.specs.Joining.{rows, grouped, is_recipe, recipe_text, spliced, joined_text}
use Rattle.em_lines.specs.Comments.{bare}

-- lines count from 1, and from 4,294,967,295 on each has that number
abbrev pub place : List ℕ → ℕ → Place
place file n = record { file = file; line = min n 4294967295 }

abbrev pub is_too_long : List (List ℕ) → Bool
is_too_long group = nat_lt 1048576 (length (joined_text group))

abbrev pub logical_text : List (List ℕ) → List ℕ
logical_text group = if is_recipe group then recipe_text group else bare (spliced group)

abbrev pub no_more : Lines
no_more = record { lines = []; too_long = None }

abbrev pub stops : Place → Lines
stops p = record { lines = []; too_long = Some p }

abbrev pub with_line : Line → Lines → Lines
with_line l ls = record { lines = l ∷ ls.lines; too_long = ls.too_long }

-- the n-th line of the file and those behind it; behind the last newline an empty rest is no line
abbrev pub lines_from : (List (List ℕ) → List ℕ) → List ℕ → ℕ → List (List (List ℕ)) → Lines
lines_from text file n [] = no_more
lines_from text file n (([] ∷ []) ∷ []) = no_more
lines_from text file n (g ∷ gs) =
    if is_too_long g then stops (place file n)
    else with_line (record { place = place file n; tab = is_recipe g; text = text g }) (lines_from text file (n + length g) gs)

abbrev pub lines_by : (List (List ℕ) → List ℕ) → List ℕ → List ℕ → Lines
lines_by text file bytes = lines_from text file 1 (grouped (rows bytes))

unfoldable pub joined : List ℕ → List ℕ → Lines
joined file bytes = lines_by joined_text file bytes

unfoldable pub logical : List ℕ → List ℕ → Lines
logical file bytes = lines_by logical_text file bytes

abbrev pub all_by : List Line → Option Place → Result (List Line) LinesNo
all_by ls None = Ok ls
all_by ls (Some p) = Err (TooLong p)

abbrev pub all_lines : List ℕ → List ℕ → Result (List Line) LinesNo
all_lines file bytes = all_by (logical file bytes).lines (logical file bytes).too_long
