-- The lines of a text, `lines_of`: each with its newline; what stands behind the last newline,
-- where anything does, is a line too.
--     bare l            a line without its newline
--     head n text       the first n lines
--     tail n text       the last n lines
--     line_count, word_count      how many newlines and how many words there are
use Rattle.std.specs.Prelude.{ℕ, ◌-◌, ◌==◌, ◌||◌, ◌++◌, Bool, nat_lt, List, [], ◌∷◌, length, map, take, drop, count_by, decimal, if◌then◌else◌}
use Rattle.std.specs.List.{concat, filter, slice_split, ends_with, join_with_byte}
use Rattle.std.specs.Prelude.{nat_eq}
use Rattle.bstr.specs.Text.{lines_of}
use Rattle.em_lineutil.specs.declared.count.Asked.{Asked}

abbrev pub bare : List ℕ → List ℕ
bare l = if ends_with nat_eq l (10 ∷ []) then take (length l - 1) l else l

unfoldable pub head : ℕ → List ℕ → List ℕ
head n text = concat (take n (lines_of text))

unfoldable pub tail : ℕ → List ℕ → List ℕ
tail n text = concat (drop (length (lines_of text) - n) (lines_of text))

abbrev pub is_newline : ℕ → Bool
is_newline b = b == 10

abbrev pub line_count : List ℕ → ℕ
line_count text = count_by is_newline text

-- words stand between blanks, tabs and newlines
abbrev pub is_space : ℕ → Bool
is_space b = b == 32 || b == 9 || b == 10

abbrev pub word_count : List ℕ → ℕ
word_count text = length (filter (λ w. nat_lt 0 (length w)) (slice_split is_space text))

-- a number, where it is asked for
abbrev pub if_asked : Bool → ℕ → List (List ℕ)
if_asked asked n = if asked then decimal n ∷ [] else []

abbrev pub counts : Asked → List ℕ → List (List ℕ)
counts asked text = if_asked asked.lines (line_count text) ++ if_asked asked.words (word_count text) ++ if_asked asked.bytes (length text)

-- the counts that are asked for, and the name that was given, with a space between each two
unfoldable pub count_line : Asked → List ℕ → List (List ℕ) → List ℕ
count_line asked text names = join_with_byte 32 (counts asked text ++ names) ++ 10 ∷ []
