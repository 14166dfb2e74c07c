-- What the text functions make of texts and of lists of words.
use Rattle.std.specs.Prelude.{ℕ, ◌-◌, ◌+◌, ◌==◌, suc, zero, Bool, is_some, nat_lt, List, [], ◌++◌, length, map, Option, Some, None, slice_get, take, drop, unwrap_or, if◌then◌else◌}
use Rattle.std.specs.Ordering.{nat_cmp}
use Rattle.std.specs.Cmp.Lexicographic.{slice_cmp}
use Rattle.std.specs.List.{list_any, filter}
use Rattle.std.specs.FinMap as map_of
use Rattle.bstr.specs.Find.{first_of, matches as matches_in}
use Rattle.bstr.specs.Text.{replaced_at}
use Rattle.em_wordlist.specs.Stems.{stem_of}

-- each f in the text replaced by t, from the left; an empty f stands at the end alone
abbrev pub substituted : List ℕ → List ℕ → List ℕ → List ℕ
substituted f t x = if length f == 0 then x ++ t else replaced_at x (length f) t 0 (matches_in x f 0)

-- f stands somewhere in the text
abbrev pub occurs : List ℕ → List ℕ → Bool
occurs f x = is_some (first_of (matches_in x f 0))

abbrev pub nonempty : List (List ℕ) → List (List ℕ)
nonempty ws = filter (λ w. nat_lt 0 (length w)) ws

-- some pattern matches the word
abbrev pub matches : List (List ℕ) → List ℕ → Bool
matches patterns word = list_any (λ p. is_some (stem_of p word)) patterns

-- the words in byte order, once each: the keys of the finite map that has them
abbrev pub sorted : List (List ℕ) → List (List ℕ)
sorted ws = map_of.keys (map_of.from_entries {X = Unit {0}} {R = slice_cmp nat_cmp} (map (λ w. (w, tt)) ws))

abbrev pub first_word : List (List ℕ) → List ℕ
first_word ws = unwrap_or (slice_get ws 0) []

abbrev pub last_word : List (List ℕ) → List ℕ
last_word ws = unwrap_or (slice_get ws (length ws - 1)) []

-- a number from 1 on
abbrev pub from_one : Option ℕ → Option ℕ
from_one None = None
from_one (Some zero) = None
from_one (Some (suc n)) = Some (suc n)

-- the n-th word, from 1
abbrev pub nth_word : ℕ → List (List ℕ) → List ℕ
nth_word n ws = unwrap_or (slice_get ws (n - 1)) []

-- the words from number s, from 1, up to and with number e
abbrev pub word_range : ℕ → ℕ → List (List ℕ) → List (List ℕ)
word_range s e ws = take (e + 1 - s) (drop (s - 1) ws)
