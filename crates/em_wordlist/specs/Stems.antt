-- Patterns: the first `%` of a pattern stands for any bytes, its stem.
--     IsMatch pattern word stem     the word matches the pattern with this stem
--     stem_of pattern word          where the stem stands in the word; none where the word doesn't match
--     replaced pattern to word      the word, and where it matches the text `to` with the stem for its first `%`
use Rattle.std.specs.Prelude.{◌≡◌, ℕ, ◌+◌, ◌-◌, ◌==◌, ◌&&◌, nat_eq, nat_lt, not, Bool, List, [], ◌++◌, length, take, drop, Option, Some, None, if◌then◌else◌}
use Rattle.std.specs.List.{position, starts_with, ends_with}
use Rattle.std.specs.Str.{bytes_eq}
use Rattle.em_base.specs.declared.place.Span.{Span}
use Rattle.em_base.specs.Spans.{cut}

abbrev pub is_percent : ℕ → Bool
is_percent b = b == 37

-- with its first `%` at i: the part before it, the stem, the part after it; without one the pattern
-- itself, and no stem
abbrev pub IsMatchAt : Option ℕ → List ℕ → List ℕ → List ℕ → Type 0
IsMatchAt None pattern word stem = (word ≡ pattern) × (stem ≡ [])
IsMatchAt (Some i) pattern word stem = word ≡ take i pattern ++ stem ++ drop (i + 1) pattern

abbrev pub IsMatch : List ℕ → List ℕ → List ℕ → Type 0
IsMatch pattern word stem = IsMatchAt (position is_percent pattern) pattern word stem

-- the part before the `%` and the part after it, with room for both
abbrev pub stem_at : Option ℕ → List ℕ → List ℕ → Option Span
stem_at None pattern word = if bytes_eq word pattern then Some (record { start = 0; end = 0 }) else None
stem_at (Some i) pattern word =
    if not (nat_lt (length word + 1) (length pattern)) && starts_with nat_eq word (take i pattern) && ends_with nat_eq word (drop (i + 1) pattern)
    then Some (record { start = i; end = length word + i + 1 - length pattern }) else None

abbrev pub stem_of : List ℕ → List ℕ → Option Span
stem_of pattern word = stem_at (position is_percent pattern) pattern word

-- the text with the stem for its first `%`
abbrev pub filled_at : Option ℕ → List ℕ → List ℕ → List ℕ
filled_at None to stem = to
filled_at (Some i) to stem = take i to ++ stem ++ drop (i + 1) to

abbrev pub filled : List ℕ → List ℕ → List ℕ
filled to stem = filled_at (position is_percent to) to stem

-- a pattern without `%` has no stem to give, so `to` then stands as it is
abbrev pub given : Option ℕ → List ℕ → List ℕ → List ℕ
given None to stem = to
given (Some i) to stem = filled to stem

abbrev pub replaced_by : Option Span → List ℕ → List ℕ → List ℕ → List ℕ
replaced_by None pattern to word = word
replaced_by (Some s) pattern to word = given (position is_percent pattern) to (cut word s)

abbrev pub replaced : List ℕ → List ℕ → List ℕ → List ℕ
replaced pattern to word = replaced_by (stem_of pattern word) pattern to word
