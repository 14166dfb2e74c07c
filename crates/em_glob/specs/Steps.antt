-- What the pieces that the code reads are, and what one of them is to the pieces of a pattern.
use Rattle.std.specs.Prelude.{ℕ, ◌+◌, ◌-◌, Bool, true, false, if◌then◌else◌, List, [], ◌∷◌, drop, Option, Some, None}
use Rattle.em_glob.specs.declared.glyph.Glyph.{Glyph}
use Rattle.em_glob.specs.declared.piece.Piece.{Piece as Read}
use Rattle.em_glob.specs.declared.piece.Piece.TheVariants as read
use Rattle.em_glob.specs.Patterns.{Piece, AnyBytes, AnyByte, OneOf, NoneOf, Itself, takes, pieces}

abbrev pub meant : Read → Piece
meant read.AnyBytes = AnyBytes
meant read.AnyByte = AnyByte
meant (read.OneOf list) = OneOf list.now
meant (read.NoneOf list) = NoneOf list.now
meant (read.Itself b) = Itself b

-- whether a piece is one byte, and this one
abbrev pub takes_one : Piece → ℕ → Bool
takes_one AnyBytes b = false
takes_one p b = takes p b

-- the pieces behind the first one, where that is one byte, and this one
abbrev pub passed : List Piece → ℕ → Option (List Piece)
passed [] b = None
passed (p ∷ ps) b = if takes_one p b then Some ps else None

-- the first piece is `*`
abbrev pub begins_any : List Piece → Bool
begins_any (AnyBytes ∷ ps) = true
begins_any _ = false

-- a set whose `[` stands at `at`, and how many glyphs it has behind the `[`; a `[` without its `]`
-- is itself
abbrev pub told : ℕ → Option (Read × ℕ) → Piece × ℕ
told at None = (Itself 91, 0)
told at (Some (piece, behind)) = (meant piece, behind - (at + 1))

-- a piece and those from the place behind it on, or none
abbrev pub begins : List Glyph → Option (Read × ℕ) → List Piece
begins pattern None = []
begins pattern (Some (piece, behind)) = meant piece ∷ pieces (drop behind pattern)
