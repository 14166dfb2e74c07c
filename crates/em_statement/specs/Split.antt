-- A text parted at a byte, and its first word.
--     front at text, behind at text     what stands before a place, and what stands behind the byte there
--     first_word text, after_word text  the first word, and what stands behind it and the blanks that follow it
use Rattle.std.specs.Prelude.{ℕ, ◌+◌, ◌==◌, not, Bool, List, take, drop, length}
use Rattle.std.specs.List.{prefix_len}
use Rattle.em_base.specs.Blanks.{is_blank, trimmed_start}

abbrev pub behind : ℕ → List ℕ → List ℕ
behind at text = drop (at + 1) text

abbrev pub word_length : List ℕ → ℕ
word_length text = prefix_len (λ b. not (is_blank b)) text

abbrev pub first_word : List ℕ → List ℕ
first_word text = take (word_length (trimmed_start text)) (trimmed_start text)

abbrev pub after_word : List ℕ → List ℕ
after_word text = trimmed_start (drop (word_length (trimmed_start text)) (trimmed_start text))

-- nothing but blanks
abbrev pub is_empty : List ℕ → Bool
is_empty text = length (trimmed_start text) == 0
