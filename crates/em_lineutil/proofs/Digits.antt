-- Digits, and the numbers that they write.
use Rattle.std.proofs.Common.{◌≡◌, ◌∙◌, ℕ, zero, suc, ◌+◌, ◌-◌, ◌*◌, ◌<◌, ◌≤◌, ◌^◌, ◌&&◌, Bool, true, false, List, [], ◌∷◌, length, get_or, take, nat_lt, refl, sym, ap, subst, arith, rules}
use Rattle.std.specs.List.{list_all}
use Rattle.std.specs.Char.{is_ascii_digit, digit_value}
use Rattle.std.specs.Str.Parse.{digits_value}
use Rattle.std.proofs.lemmas.Bool.{and_parts}
use Rattle.std.proofs.lemmas.Bool.Decides.{nat_tests}
use Rattle.std.proofs.lemmas.Str.Parse.{IsNumeralModel, numerals_by_value, digits_value_short, digits_value-take-le}
use Rattle.std.proofs.lemmas.Int.Digits.{digits_value_more}

abbrev AreDigits : List ℕ → Type 0
AreDigits ds = list_all is_ascii_digit ds ≡ true

own : IsNumeralModel AreDigits (digits_value 10)
own = numerals_by_value AreDigits (search rules)

pub digit_at : (ds : List ℕ) (i : ℕ) → list_all is_ascii_digit ds ≡ true → i < length ds → is_ascii_digit (get_or ds i 0) ≡ true
digit_at [] i all low = absurd (omega arith)
digit_at (d ∷ ds) zero all low = (and_parts _ _ all).0
digit_at (d ∷ ds) (suc i) all low = digit_at ds i (and_parts _ _ all).1 (omega arith)

-- up to 18 digits write a number below 10^18, and so do the first of them
pub value_below : (ds : List ℕ) → list_all is_ascii_digit ds ≡ true → length ds ≤ 18 → digits_value 10 ds < 10 ^ 18
value_below ds all short = digits_value_short own ds 18 all short

pub first_below : (ds : List ℕ) (i : ℕ) → list_all is_ascii_digit ds ≡ true → length ds ≤ 18 → digits_value 10 (take i ds) < 10 ^ 18
first_below ds i all short = omega (arith, digits_value-take-le 10 ds i (omega arith), value_below ds all short)

pub one_more : (ds : List ℕ) (i : ℕ) → i < length ds → digits_value 10 (take (i + 1) ds) ≡ digits_value 10 (take i ds) * 10 + digit_value (get_or ds i 0)
one_more ds i low = digits_value_more 10 ds i low

pub digit_is : (d : ℕ) → is_ascii_digit d ≡ true → digit_value d ≡ d - 48
digit_is d h =
    let low : nat_lt d 48 ≡ false = grind (arith, nat_tests) in
    let high : nat_lt d 58 ≡ true = grind (arith, nat_tests) in
    rw (low, high) refl
