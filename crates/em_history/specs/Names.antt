-- Names that can stand in a line of a history or of a report, with blanks between them.
--     is_name text       the text isn't empty, and holds no space, tab, newline or NUL
use Rattle.std.specs.Prelude.{ℕ, ◌==◌, ◌||◌, ◌&&◌, Bool, not, nat_lt, List, length}
use Rattle.std.specs.List.{list_all}

abbrev pub parts_names : ℕ → Bool
parts_names b = b == 32 || b == 9 || b == 10 || b == 0

abbrev pub is_name : List ℕ → Bool
is_name text = nat_lt 0 (length text) && list_all (λ b. not (parts_names b)) text
