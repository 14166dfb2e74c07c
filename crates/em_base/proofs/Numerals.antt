-- Texts of digits, and the numbers that they write.
--     decimal_first, decimal_digits, decimal_value      what is written of a number is a numeral, of that number
--     digits_spell        what a numeral's number is written as
--     number_law          both, of a number up to a limit
use Rattle.std.proofs.Common.{◌≡◌, ℕ, ◌<◌, ◌≤◌, ◌^◌, ◌&&◌, not, ◌||◌, eqb, leb, Bool, true, false, cond, List, [], ◌∷◌, length, get_or, Some, None, Result, Ok, Err, refl, sym, subst, ap, ◌∙◌, arith, rules, decimal, inl, inr}
use Rattle.std.specs.Prelude.{◌↔◌, MatchResult}
use Rattle.std.specs.List.{list_all}
use Rattle.std.specs.Char.{is_ascii_digit}
use Rattle.std.specs.Str.{IsUtf8}
use Rattle.std.specs.Str.Parse.{digits_value, ParsesUnsigned}
use Rattle.std.specs.Result.{result_ok}
use Rattle.std.proofs.lemmas.Bool.{le-leb, leb-true, eqb-true, eq-eqb, cases_lt, and_parts}
use Rattle.std.proofs.lemmas.Str.{IsUtf8-from_ascii}
use Rattle.std.proofs.lemmas.Str.Parse.{IsNumeralModel, numerals_by_value, parse_gives}
use Rattle.std.proofs.lemmas.Fmt.{IsAscii-from_digits, decimal_digit, decimal_nonempty, first_decimal, digits_decimal, digits_value-decimal, decimal-digits_value}
use Rattle.em_base.specs.Numbers.{has_no_leading_zero, is_numeral, number_of}

abbrev pub AreDigits : List ℕ → Type 0
AreDigits ds = list_all is_ascii_digit ds ≡ true

own : IsNumeralModel AreDigits (digits_value 10)
own = numerals_by_value AreDigits (search rules)

numeral_first : (ds : List ℕ) → has_no_leading_zero ds ≡ true → (0 < length ds) × (get_or ds 0 0 ≡ 48 → length ds ≡ 1)
numeral_first [] e = absurd cc
numeral_first (d ∷ ds) e = (omega arith, λ z. let k : d ≡ 48 = z in let empty : eqb (length ds) 0 ≡ true = rw k at e in omega (arith, eqb-true (length ds) 0 empty))

numeral_from : (ds : List ℕ) → 0 < length ds → (get_or ds 0 0 ≡ 48 → length ds ≡ 1) → has_no_leading_zero ds ≡ true
numeral_from [] lt h = absurd (omega arith)
numeral_from (d ∷ ds) lt h =
    elim (eqb d 48) as (λ b. eqb d 48 ≡ b → (not b || eqb (length ds) 0) ≡ true) [
      | true ↦ λ e. eq-eqb (length ds) 0 (omega (arith, h (eqb-true d 48 e)))
      | false ↦ λ e. refl
    ] refl

-- what holds of the value of an `Ok`
pub ok_holds : {S E : Type 0} (r : Result S E) (s : S) (P : S → Type 0) (Q : E → Type 0) → MatchResult r P Q → Some s ≡ result_ok r → P s
ok_holds (Ok x) s P Q m is = let k : x ≡ s = cc in subst P k m
ok_holds (Err e) s P Q m is = absurd cc

-- digits are text
digits_are_utf8 : (text : List ℕ) → AreDigits text → IsUtf8 text
digits_are_utf8 text digits = IsUtf8-from_ascii text (IsAscii-from_digits text (own.to text digits))

-- digits that aren't read are a number that doesn't fit
pub not_read : {E : Type 0} (limit : ℕ) (text : List ℕ) (r : Result ℕ E) → limit < 2 ^ 64 → has_no_leading_zero text ≡ true → AreDigits text → ParsesUnsigned 64 10 text r → None ≡ result_ok r → None ≡ number_of limit text
not_read limit text r small first digits h none =
    elim (leb (digits_value 10 text) limit) as (λ b. leb (digits_value 10 text) limit ≡ b → None ≡ number_of limit text) [
      | true ↦ λ le.
          let low : digits_value 10 text < 2 ^ 64 = omega (arith, leb-true _ _ le) in
          let is : r ≡ Ok (digits_value 10 text) = parse_gives own 64 text r h digits (numeral_first text first).0 low in
          let bad : None ≡ Some (digits_value 10 text) = rw is at none in absurd cc
      | false ↦ λ le. rw (first, digits, le) refl
    ] refl

-- a text of digits is always UTF-8
pub not_text : {S E : Type 0} (limit : ℕ) (text : List ℕ) (r : Result S E) (P : S → Type 0) (Q : E → Type 0) → AreDigits text → MatchResult r P (λ e. ¬ (IsUtf8 text) × Q e) → None ≡ result_ok r → None ≡ number_of limit text
not_text limit text (Ok s) P Q digits m none = absurd cc
not_text limit text (Err x) P Q digits m none = absurd (m.0 (digits_are_utf8 text digits))

-- ---- numbers and their texts

pub decimal_first : (n : ℕ) → n < 2 ^ 64 → has_no_leading_zero (decimal n) ≡ true
decimal_first n small = numeral_from (decimal n) (decimal_nonempty n small) (λ z.
    elim (cases_lt 0 n) [
      | inl pos ↦ absurd (omega (arith, z, first_decimal n pos small))
      | inr le ↦ let k : n ≡ 0 = omega arith in rw (k, decimal_digit 0 (omega arith)) refl
    ])

pub decimal_digits : (n : ℕ) → n < 2 ^ 64 → list_all is_ascii_digit (decimal n) ≡ true
decimal_digits n small = digits_decimal own n small

pub decimal_value : (n : ℕ) → n < 2 ^ 64 → digits_value 10 (decimal n) ≡ n
decimal_value n small = digits_value-decimal own n small

pub digits_spell : (text : List ℕ) → has_no_leading_zero text ≡ true → list_all is_ascii_digit text ≡ true → digits_value 10 text < 2 ^ 64 → decimal (digits_value 10 text) ≡ text
digits_spell text first digits small = let f = numeral_first text first in decimal-digits_value own text digits f.0 f.1 small

-- the number of a text, where there is one
given : (b : Bool) (v n : ℕ) → cond b (Some v) None ≡ Some n → (b ≡ true) × (v ≡ n)
given true v n e = (refl, cc)
given false v n e = absurd cc

number_is : (limit : ℕ) (text : List ℕ) (n : ℕ) → limit < 2 ^ 64 → number_of limit text ≡ Some n → (n ≤ limit) × (text ≡ decimal n)
number_is limit text n small e =
    let g = given (is_numeral text && leb (digits_value 10 text) limit) (digits_value 10 text) n e in
    let h = and_parts _ _ g.0 in
    let form = and_parts _ _ h.0 in
    let le : digits_value 10 text ≤ limit = leb-true _ _ h.1 in
    let written : decimal (digits_value 10 text) ≡ text = digits_spell text form.0 form.1 (omega arith) in
    (omega (arith, g.1), sym written ∙ ap decimal g.1)

number_from : (limit n : ℕ) → limit < 2 ^ 64 → n ≤ limit → number_of limit (decimal n) ≡ Some n
number_from limit n small le =
    let low : n < 2 ^ 64 = omega arith in
    rw (decimal_first n low, decimal_digits n low, decimal_value n low, le-leb _ _ le) refl

pub number_law : (limit n : ℕ) (text : List ℕ) → limit < 2 ^ 64 → (number_of limit text ≡ Some n) ↔ ((n ≤ limit) × (text ≡ decimal n))
number_law limit n text small = (number_is limit text n small, λ h. rw h.1 (number_from limit n small h.0))
