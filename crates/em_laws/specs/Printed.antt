-- Words of the laws on `printf`: a format, its words and what is written, put together from the
-- same pieces.
use Rattle.std.specs.Prelude.{◌≡◌, ◌≢◌, ℕ, ℤ, List, [], ◌∷◌, count_by, codes, Option, Some, Result, Ok, Err}
use Rattle.std.specs.Fmt.{signed_decimal}
use Rattle.em_lineutil.specs.declared.format.Part.{Part}
use Rattle.em_lineutil.specs.Formats.{number_of, takes, format_of, printed, faults}

-- a byte as it is, `%%`, `\n`, `\t` and `\\`, a word at `%s`, and at `%d` a word with the number
-- that it writes
pub data Piece : Type 0 where
  Plain : ℕ → Piece
  Percent : Piece
  Newline : Piece
  Tab : Piece
  Backslash : Piece
  Word : List ℕ → Piece
  Number : List ℕ → ℤ → Piece

abbrev pub IsPiece : Piece → Type 0
IsPiece (Plain b) = (b ≢ 37) × (b ≢ 92)
IsPiece (Number w z) = number_of w ≡ Some z
IsPiece _ = Unit {0}

abbrev pub in_format : Piece → List ℕ
in_format (Plain b) = b ∷ []
in_format Percent = codes "%%"
in_format Newline = 92 ∷ codes "n"
in_format Tab = 92 ∷ codes "t"
in_format Backslash = 92 ∷ 92 ∷ []
in_format (Word w) = codes "%s"
in_format (Number w z) = codes "%d"

abbrev pub as_words : Piece → List (List ℕ)
as_words (Word w) = w ∷ []
as_words (Number w z) = w ∷ []
as_words _ = []

abbrev pub in_output : Piece → List ℕ
in_output (Plain b) = b ∷ []
in_output Percent = codes "%"
in_output Newline = 10 ∷ []
in_output Tab = 9 ∷ []
in_output Backslash = 92 ∷ []
in_output (Word w) = w
in_output (Number w z) = signed_decimal z

-- what a format writes of words, and which of them should be numbers and aren't; a directive that
-- is refused
abbrev pub output_by : Result (List Part) (Option ℕ) → List (List ℕ) → Result (List ℕ × List (List ℕ)) (Option ℕ)
output_by (Ok ps) ws = Ok (printed ps ws, faults ps ws)
output_by (Err byte) ws = Err byte

abbrev pub output : List ℕ → List (List ℕ) → Result (List ℕ × List (List ℕ)) (Option ℕ)
output format ws = output_by (format_of format) ws

-- so many words a format takes
abbrev pub how_many_taken : List Part → ℕ
how_many_taken ps = count_by takes ps
