-- Numbers in canonical decimal: digits without a sign, the first a zero only in `0` itself.
use Rattle.std.specs.Prelude.{ℕ, Bool, false, not, ◌&&◌, ◌||◌, ◌==◌, nat_le, List, [], ◌∷◌, length, Option, Some, None, if◌then◌else◌}
use Rattle.std.specs.List.{list_all}
use Rattle.std.specs.Char.{is_ascii_digit}
use Rattle.std.specs.Str.Parse.{digits_value}

-- there is a first byte, and it is a zero only where it is the only one
abbrev pub has_no_leading_zero : List ℕ → Bool
has_no_leading_zero [] = false
has_no_leading_zero (d ∷ ds) = not (d == 48) || (length ds == 0)

abbrev pub is_numeral : List ℕ → Bool
is_numeral text = has_no_leading_zero text && list_all is_ascii_digit text

-- the number that the text writes, where it is at most the limit
abbrev pub number_of : ℕ → List ℕ → Option ℕ
number_of limit text = if is_numeral text && nat_le (digits_value 10 text) limit then Some (digits_value 10 text) else None
