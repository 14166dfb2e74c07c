-- A text without a part at its begin or end that matches a pattern, the shortest such part or the
-- longest.
--     first_place test n, last_place test n    the first and the last place up to n that passes the test
use Rattle.std.specs.Prelude.{ℕ, zero, suc, ◌+◌, ◌-◌, Bool, List, take, drop, length, Option, Some, None, option_map, if◌then◌else◌}
use Rattle.em_glob.specs.declared.glyph.Glyph.{Glyph}
use Rattle.em_glob.specs.Patterns.{fits, pieces}
use Rattle.em_fields.specs.declared.cut.Cut.{Cut}
use Rattle.em_fields.specs.declared.cut.Cut.TheVariants.{ShortSuffix, LongSuffix, ShortPrefix, LongPrefix}

-- of n places from i on
abbrev pub first_from : (ℕ → Bool) → ℕ → ℕ → Option ℕ
first_from test i zero = None
first_from test i (suc n) = if test i then Some i else first_from test (i + 1) n

abbrev pub first_place : (ℕ → Bool) → ℕ → Option ℕ
first_place test n = first_from test 0 (n + 1)

-- the first one, counted from the end
abbrev pub last_place : (ℕ → Bool) → ℕ → Option ℕ
last_place test n = option_map (λ i. n - i) (first_place (λ i. test (n - i)) n)

-- the text matches from the place on, and up to it
abbrev pub is_suffix_at : List Glyph → List ℕ → ℕ → Bool
is_suffix_at pattern text i = fits (pieces pattern) (drop i text)

abbrev pub is_prefix_to : List Glyph → List ℕ → ℕ → Bool
is_prefix_to pattern text i = fits (pieces pattern) (take i text)

abbrev pub before : List ℕ → Option ℕ → List ℕ
before text None = text
before text (Some i) = take i text

abbrev pub behind : List ℕ → Option ℕ → List ℕ
behind text None = text
behind text (Some i) = drop i text

abbrev pub cut_off : Cut → List Glyph → List ℕ → List ℕ
cut_off ShortSuffix pattern text = before text (last_place (is_suffix_at pattern text) (length text))
cut_off LongSuffix pattern text = before text (first_place (is_suffix_at pattern text) (length text))
cut_off ShortPrefix pattern text = behind text (first_place (is_prefix_to pattern text) (length text))
cut_off LongPrefix pattern text = behind text (last_place (is_prefix_to pattern text) (length text))
