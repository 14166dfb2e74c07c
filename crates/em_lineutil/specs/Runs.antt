-- `uniq`: of adjacent lines that are equal but for the newline of the last one, the first, and how
-- many they are.
use Rattle.std.specs.Prelude.{ℕ, ◌+◌, ◌-◌, nat_eq, Bool, List, [], ◌∷◌, ◌++◌, length, decimal, replicate, if◌then◌else◌}
use Rattle.std.specs.List.{flat_map}
use Rattle.std.specs.Cmp.Lexicographic.{pointwise}
use Rattle.bstr.specs.Text.{lines_of}
use Rattle.em_lineutil.specs.Lines.{bare}

-- the run that has begun with `first` and has n lines so far, and the runs behind it
abbrev pub runs_from : List ℕ → ℕ → List (List ℕ) → List (List ℕ × ℕ)
runs_from first n [] = (first, n) ∷ []
runs_from first n (l ∷ ls) = if pointwise nat_eq (bare l) (bare first) then runs_from first (n + 1) ls else (first, n) ∷ runs_from l 1 ls

abbrev pub runs : List (List ℕ) → List (List ℕ × ℕ)
runs [] = []
runs (l ∷ ls) = runs_from l 1 ls

-- the digits right in seven places
abbrev pub in_seven : List ℕ → List ℕ
in_seven digits = replicate (7 - length digits) 32 ++ digits

abbrev pub shown_run : Bool → List ℕ × ℕ → List ℕ
shown_run counted run = if counted then in_seven (decimal run.1) ++ 32 ∷ run.0 else run.0

unfoldable pub uniq_text : Bool → List ℕ → List ℕ
uniq_text counted text = flat_map (shown_run counted) (runs (lines_of text))
