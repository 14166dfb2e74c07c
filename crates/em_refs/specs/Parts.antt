-- How a text of make is parted into literal text and references.
--     parted text         the parts in order up to the first reference that isn't closed, and where its `$` stands
--     parts_of text       the parts, where every reference is closed
use Rattle.std.specs.Prelude.{ℕ, ◌+◌, ◌==◌, suc, zero, List, [], ◌∷◌, ◌++◌, drop, slice_get, Option, Some, None, Result, Ok, Err, if◌then◌else◌, option_and_then}
use Rattle.em_base.specs.declared.place.Span.{Span}
use Rattle.em_base.specs.Spans.{cut}
use Rattle.em_refs.specs.declared.part.Bracket.{Bracket}
use Rattle.em_refs.specs.declared.part.Bracket.TheVariants.{Round, Curly}
use Rattle.em_refs.specs.declared.part.Part.{Part}
use Rattle.em_refs.specs.declared.part.Part.TheVariants.{Literal, Dollar, Ref}
use Rattle.em_refs.specs.declared.part.Parted.{Parted}
use Rattle.em_refs.specs.declared.no.RefNo.{RefNo}
use Rattle.em_refs.specs.declared.no.RefNo.TheVariants.{Unclosed}

-- `(` and `)`, `{` and `}`
abbrev pub opening_of : Bracket → ℕ
opening_of Round = 40
opening_of Curly = 123

abbrev pub closing_of : Bracket → ℕ
closing_of Round = 41
closing_of Curly = 125

-- the kind that a byte opens
abbrev pub bracket_of : ℕ → Option Bracket
bracket_of b = if b == 40 then Some Round else if b == 123 then Some Curly else None

-- the kind that the byte in front of a span opens
abbrev pub byte_before : List ℕ → ℕ → Option ℕ
byte_before text zero = None
byte_before text (suc at) = slice_get text at

abbrev pub bracket_before : List ℕ → Span → Option Bracket
bracket_before text s = option_and_then bracket_of (byte_before text s.start)

-- where a byte stands: in plain text that began at `from`; right behind the `$` at `from`; or in
-- the brackets of the reference whose `$` stands at `from`, with `deep` more pairs of the same
-- brackets open
pub data Mode : Type 0 where
  plain : ℕ → Mode
  behind : ℕ → Mode
  inside : ℕ → Bracket → ℕ → Mode

abbrev pub span : ℕ → ℕ → Span
span from to = record { start = from; end = to }

-- plain text, where there is some
abbrev pub literal : ℕ → ℕ → List Part
literal from to = if from == to then [] else Literal (span from to) ∷ []

-- behind a `$` at `from` the byte b at `at`: what it makes, and how it goes on
abbrev pub begun : Option Bracket → ℕ → ℕ → ℕ → List Part × Mode
begun (Some bracket) from at b = ([], inside from bracket 0)
begun None from at b = if b == 36 then (Dollar ∷ [], plain (at + 1)) else (Ref (span at (at + 1)) ∷ [], plain (at + 1))

-- a closing bracket at `at`: of a pair inside, or of the reference
abbrev pub closed : ℕ → Bracket → ℕ → ℕ → List Part × Mode
closed from bracket zero at = (Ref (span (from + 2) at) ∷ [], plain (at + 1))
closed from bracket (suc deep) at = ([], inside from bracket deep)

-- what the byte b at `at` makes, and how it goes on
abbrev pub step : Mode → ℕ → ℕ → List Part × Mode
step (plain from) at b = if b == 36 then (literal from at, behind at) else ([], plain from)
step (behind from) at b = begun (bracket_of b) from at b
step (inside from bracket deep) at b =
    if b == closing_of bracket then closed from bracket deep at
    else ([], inside from bracket (if b == opening_of bracket then suc deep else deep))

-- the end of the text, at `at`
abbrev pub ended : Mode → ℕ → Parted
ended (plain from) at = record { parts = literal from at; unclosed = None }
ended (behind from) at = record { parts = []; unclosed = Some from }
ended (inside from bracket deep) at = record { parts = []; unclosed = Some from }

abbrev pub with_front : List Part → Parted → Parted
with_front ps p = record { parts = ps ++ p.parts; unclosed = p.unclosed }

abbrev pub parts_from : Mode → ℕ → List ℕ → Parted
parts_from mode at [] = ended mode at
parts_from mode at (b ∷ bs) = with_front (step mode at b).0 (parts_from (step mode at b).1 (at + 1) bs)

abbrev pub parted : List ℕ → Parted
parted text = parts_from (plain 0) 0 text

abbrev pub all_closed : List Part → Option ℕ → Result (List Part) RefNo
all_closed ps None = Ok ps
all_closed ps (Some at) = Err (Unclosed at)

abbrev pub parts_of : List ℕ → Result (List Part) RefNo
parts_of text = all_closed (parted text).parts (parted text).unclosed

-- a name of one byte, or a name in its brackets
abbrev pub bracketed : Option Bracket → List ℕ → List ℕ
bracketed None name = 36 ∷ name
bracketed (Some bracket) name = 36 ∷ opening_of bracket ∷ name ++ closing_of bracket ∷ []

-- what a part was in the text
abbrev pub source : List ℕ → Part → List ℕ
source text (Literal s) = cut text s
source text Dollar = 36 ∷ 36 ∷ []
source text (Ref s) = bracketed (bracket_before text s) (cut text s)

-- what no part tells of
abbrev pub left : List ℕ → Option ℕ → List ℕ
left text None = []
left text (Some at) = drop at text
