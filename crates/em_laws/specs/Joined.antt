-- Words of the laws on logical lines.
use Rattle.std.specs.Prelude.{◌≢◌, ◌≤◌, ◌+◌, min, ℕ, Bool, List, [], ◌∷◌, length, map, None, option_map}
use Rattle.em_base.specs.declared.place.Place.{Place}
use Rattle.em_lines.specs.declared.line.Line.{Line}
use Rattle.em_lines.specs.declared.line.Lines.{Lines}

abbrev pub BeginsOtherwise : ℕ → List ℕ → Type 0
BeginsOtherwise c [] = Unit {0}
BeginsOtherwise c (b ∷ bs) = b ≢ c

abbrev pub first_place : List ℕ → Place
first_place file = record { file = file; line = 1 }

-- the first line of the file
abbrev pub first_line : List ℕ → Bool → List ℕ → Line
first_line file tab text = record { place = first_place file; tab = tab; text = text }

-- one line further down; lines above 4,294,967,295 have that number
abbrev pub next_place : Place → Place
next_place p = record p { line = min (p.line + 1) 4294967295 }

abbrev pub next_line : Line → Line
next_line l = record l { place = next_place l.place }

abbrev pub nothing : Lines
nothing = record { lines = []; too_long = None }

abbrev pub in_front : Line → Lines → Lines
in_front l ls = record { lines = l ∷ map next_line ls.lines; too_long = option_map next_place ls.too_long }

-- the lines behind the first one
abbrev pub instead : Line → List Line → Lines → Lines
instead l more ls = record { lines = l ∷ map next_line more; too_long = option_map next_place ls.too_long }

abbrev pub IsShort : List ℕ → Type 0
IsShort text = length text ≤ 1048576
