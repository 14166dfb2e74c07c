-- Words of the laws on lines: rows stand between newlines, and a row with its newline is a line.
use Rattle.std.specs.Prelude.{◌≡◌, ◌≢◌, ◌<◌, All, ℕ, Bool, true, false, List, [], ◌∷◌, ◌++◌, replicate}
use Rattle.std.specs.List.{flat_map}
use Rattle.em_lineutil.specs.declared.search.Search.{Search}
use Rattle.em_lineutil.specs.declared.sort.Order.{Order}
use Rattle.em_view.specs.declared.done.Piece.{Piece}
use Rattle.em_textutil.specs.declared.source.ReadOperand.{ReadOperand}
use Rattle.em_textutil.specs.declared.source.OperandContent.TheVariants.{Bytes}
use Rattle.em_laws.specs.References.{HasNo}

abbrev pub ended : List ℕ → List ℕ
ended row = row ++ 10 ∷ []

-- the text of these lines
abbrev pub text_of : List (List ℕ) → List ℕ
text_of rows = flat_map ended rows

abbrev pub AreRows : List (List ℕ) → Type 0
AreRows rows = All (HasNo 10) rows

abbrev pub order : Bool → Bool → Order
order backwards unique = record { backwards = backwards; unique = unique }

-- ---- runs of equal rows

abbrev pub repeated : List ℕ × ℕ → List (List ℕ)
repeated run = replicate run.1 run.0

-- each run has a row, and two runs side by side have different ones
abbrev pub AreRuns : List (List ℕ × ℕ) → Type 0
AreRuns [] = Unit {0}
AreRuns (r ∷ []) = 0 < r.1
AreRuns (r ∷ s ∷ rs) = (0 < r.1) × (r.0 ≢ s.0) × AreRuns (s ∷ rs)

-- ---- searches

abbrev pub Fits : Bool → List ℕ → List ℕ → Type 0
Fits true p row = row ≡ p
Fits false p row = (front : List ℕ) × (rest : List ℕ) × (row ≡ front ++ (p ++ rest))

abbrev pub Turned : Bool → Type 0 → Type 0
Turned true P = ¬ P
Turned false P = P

abbrev pub IsWanted : Search → List ℕ → List ℕ → Type 0
IsWanted s p row = Turned s.inverted (Fits s.whole p row)

-- ---- files that were read, each with its name

abbrev pub read_as : List ℕ × List ℕ → ReadOperand
read_as file = record { name = file.0; found = Bytes file.1 }

-- what is written at once to the output
abbrev pub on_output : List ℕ → Piece
on_output text = record { stream = 1; text = text }
