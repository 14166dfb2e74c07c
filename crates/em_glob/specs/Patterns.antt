-- Patterns of names, as POSIX's pattern matching notation has them, but without classes as
-- `[:alpha:]`. A quoted byte stands for itself.
--     pieces gs           the pieces of a pattern, in order: `*`, `?`, `[..]`, `[!..]`, and bytes that stand for themselves
--     Matches ps name     the name consists of one part for each piece, in order, and each piece takes its part
--     fits ps name        the same as a test
--     is_pattern gs       some piece is more than a byte that stands for itself
use Rattle.std.specs.Prelude.{◌≡◌, ℕ, suc, zero, ◌+◌, ◌==◌, ◌&&◌, ◌||◌, nat_le, Bool, true, false, not, List, [], ◌∷◌, ◌++◌, length, map, take, drop, Option, Some, None, option_map, if◌then◌else◌}
use Rattle.std.specs.List.{position, list_any}
use Rattle.em_glob.specs.declared.glyph.Glyph.{Glyph}

pub data Piece : Type 0 where
  -- `*`: any bytes, also none
  AnyBytes : Piece
  -- `?`: one byte
  AnyByte : Piece
  -- `[..]`: one byte of the list; `[!..]`: one that isn't of it
  OneOf : List Glyph → Piece
  NoneOf : List Glyph → Piece
  -- one byte, which is this one
  Itself : ℕ → Piece

-- this byte, not quoted
abbrev pub is_bare : ℕ → Glyph → Bool
is_bare b g = not g.quoted && (g.byte == b)

abbrev pub is_star : Glyph → Bool
is_star g = is_bare 42 g

abbrev pub is_question : Glyph → Bool
is_question g = is_bare 63 g

abbrev pub is_opening : Glyph → Bool
is_opening g = is_bare 91 g

abbrev pub is_closing : Glyph → Bool
is_closing g = is_bare 93 g

abbrev pub is_dash : Glyph → Bool
is_dash g = is_bare 45 g

-- ---- sets. gs is what stands behind a `[`

-- a `!` comes first
abbrev pub is_negated : List Glyph → Bool
is_negated [] = false
is_negated (g ∷ gs) = is_bare 33 g

abbrev pub list_start : List Glyph → ℕ
list_start gs = if is_negated gs then 1 else 0

-- how long a list is that these glyphs begin: up to the first `]`, where one that comes first is of
-- the list
abbrev pub list_length : List Glyph → Option ℕ
list_length gs = option_map suc (position is_closing (drop 1 gs))

abbrev pub set_of : Bool → List Glyph → Piece
set_of true list = NoneOf list
set_of false list = OneOf list

-- the piece that a `[` begins, and how many more glyphs it has; one without its `]` stands for
-- itself
abbrev pub set_by : Option ℕ → List Glyph → Piece × ℕ
set_by None gs = (Itself 91, 0)
set_by (Some n) gs = (set_of (is_negated gs) (take n (drop (list_start gs) gs)), list_start gs + n + 1)

abbrev pub set : List Glyph → Piece × ℕ
set gs = set_by (list_length (drop (list_start gs) gs)) gs

-- ---- pieces

-- the piece that a glyph begins, and how many more glyphs it has
abbrev pub piece : Glyph → List Glyph → Piece × ℕ
piece g gs =
    if is_star g then (AnyBytes, 0)
    else if is_question g then (AnyByte, 0)
    else if is_opening g then set gs
    else (Itself g.byte, 0)

-- the first n glyphs belong to the piece before
abbrev pub pieces_behind : ℕ → List Glyph → List Piece
pieces_behind n [] = []
pieces_behind zero (g ∷ gs) = (piece g gs).0 ∷ pieces_behind (piece g gs).1 gs
pieces_behind (suc n) (g ∷ gs) = pieces_behind n gs

abbrev pub pieces : List Glyph → List Piece
pieces gs = pieces_behind 0 gs

-- ---- matching

-- a list has its bytes, and those between the ends of each range `a-z` in it, read from the left. A
-- `-` that is quoted, comes first, or is last without a range to end is a byte
abbrev pub has : List Glyph → ℕ → Bool
has [] b = false
has (x ∷ []) b = x.byte == b
has (x ∷ y ∷ []) b = (x.byte == b) || (y.byte == b)
has (x ∷ y ∷ z ∷ gs) b =
    if is_dash y then (nat_le x.byte b && nat_le b z.byte) || has gs b
    else (x.byte == b) || has (y ∷ z ∷ gs) b

abbrev pub Takes : Piece → List ℕ → Type 0
Takes AnyBytes part = Unit {0}
Takes AnyByte part = length part ≡ 1
Takes (OneOf list) part = (b : ℕ) × (part ≡ b ∷ []) × (has list b ≡ true)
Takes (NoneOf list) part = (b : ℕ) × (part ≡ b ∷ []) × (has list b ≡ false)
Takes (Itself c) part = part ≡ c ∷ []

abbrev pub Matches : List Piece → List ℕ → Type 0
Matches [] name = name ≡ []
Matches (p ∷ ps) name = (part : List ℕ) × ((rest : List ℕ) × (name ≡ part ++ rest) × Takes p part × Matches ps rest)

-- whether a piece that takes one byte takes this one
abbrev pub takes : Piece → ℕ → Bool
takes AnyBytes b = true
takes AnyByte b = true
takes (OneOf list) b = has list b
takes (NoneOf list) b = not (has list b)
takes (Itself c) b = c == b

-- some end of the name passes the test, or the whole name
abbrev pub some_end : (List ℕ → Bool) → List ℕ → Bool
some_end test [] = test []
some_end test (b ∷ bs) = test (b ∷ bs) || some_end test bs

abbrev pub one_fits : (List ℕ → Bool) → Piece → List ℕ → Bool
one_fits test p [] = false
one_fits test p (b ∷ bs) = takes p b && test bs

abbrev pub first_fits : (List ℕ → Bool) → Piece → List ℕ → Bool
first_fits test AnyBytes name = some_end test name
first_fits test AnyByte name = one_fits test AnyByte name
first_fits test (OneOf list) name = one_fits test (OneOf list) name
first_fits test (NoneOf list) name = one_fits test (NoneOf list) name
first_fits test (Itself c) name = one_fits test (Itself c) name

abbrev pub fits : List Piece → List ℕ → Bool
fits [] name = length name == 0
fits (p ∷ ps) name = first_fits (fits ps) p name

abbrev pub is_wild : Piece → Bool
is_wild (Itself c) = false
is_wild _ = true

abbrev pub is_pattern : List Glyph → Bool
is_pattern gs = list_any is_wild (pieces gs)

-- the bytes, quoted or not
abbrev pub bytes_of : List Glyph → List ℕ
bytes_of gs = map (λ g. g.byte) gs
