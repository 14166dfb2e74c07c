-- `grep -F`: the lines that hold a text; and `cmp`: where two texts differ.
use Rattle.std.specs.Prelude.{ℕ, ◌+◌, ◌==◌, nat_eq, Bool, not, nat_lt, is_some, List, ◌++◌, length, take, count_by, Option, Some, None, position, if◌then◌else◌}
use Rattle.std.specs.List.{filter, flat_map, zip}
use Rattle.std.specs.Cmp.Lexicographic.{pointwise}
use Rattle.bstr.specs.Find.{first_of, matches}
use Rattle.bstr.specs.Text.{lines_of}
use Rattle.em_lineutil.specs.declared.search.Search.{Search}
use Rattle.em_lineutil.specs.declared.difference.Comparison.{Comparison}
use Rattle.em_lineutil.specs.declared.difference.Comparison.TheVariants.{Same, Differ, FirstShort, SecondShort}
use Rattle.em_lineutil.specs.Lines.{bare, is_newline}

-- the text stands somewhere in the line
abbrev pub holds : List ℕ → List ℕ → Bool
holds p l = is_some (first_of (matches l p 0))

abbrev pub fits : Bool → List ℕ → List ℕ → Bool
fits whole p l = if whole then pointwise nat_eq l p else holds p l

-- the line is looked at without its newline
abbrev pub is_selected : Search → List ℕ → List ℕ → Bool
is_selected s p l = if s.inverted then not (fits s.whole p (bare l)) else fits s.whole p (bare l)

unfoldable pub selected : Search → List ℕ → List ℕ → List (List ℕ)
selected s p text = filter (is_selected s p) (lines_of text)

-- each line behind a prefix
abbrev pub prefixed : List ℕ → List (List ℕ) → List ℕ
prefixed front ls = flat_map (λ l. front ++ l) ls

-- ---- cmp

abbrev pub first_difference : List ℕ → List ℕ → Option ℕ
first_difference a b = position (λ p. not (p.0 == p.1)) (zip a b)

-- one text goes on where the other ends
abbrev pub by_length : ℕ → ℕ → Comparison
by_length m n = if nat_lt m n then FirstShort else if nat_lt n m then SecondShort else Same

-- bytes and lines are counted from 1
abbrev pub comparison_by : Option ℕ → List ℕ → List ℕ → Comparison
comparison_by None a b = by_length (length a) (length b)
comparison_by (Some i) a b = Differ (i + 1) (count_by is_newline (take i a) + 1)

unfoldable pub comparison : List ℕ → List ℕ → Comparison
comparison a b = comparison_by (first_difference a b) a b
