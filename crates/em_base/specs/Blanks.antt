-- Blanks, and a text without those at its ends.
use Rattle.std.specs.Prelude.{ℕ, ◌-◌, ◌==◌, ◌||◌, Bool, List, length, take, drop}
use Rattle.std.specs.List.{prefix_len, suffix_len}

-- a space or a tab; a newline is none
abbrev pub is_blank : ℕ → Bool
is_blank b = (b == 32) || (b == 9)

-- the text without the blanks that it begins with
abbrev pub trimmed_start : List ℕ → List ℕ
trimmed_start text = drop (prefix_len is_blank text) text

-- the text without the blanks that it ends with
abbrev pub trimmed_end : List ℕ → List ℕ
trimmed_end text = take (length text - suffix_len is_blank text) text

-- the text without the blanks at its two ends
unfoldable pub trimmed : List ℕ → List ℕ
trimmed text = trimmed_end (trimmed_start text)
