-- Digits and the numbers that they spell.
use Rattle.std.proofs.Common.{◌≡◌, ℕ, suc, ◌+◌, ◌-◌, ◌*◌, ◌<◌, ◌≤◌, Bool, true, false, cond, not, nat_lt, Some, None, List, [], ◌∷◌, length, get_or, take, drop, refl, subst, add-one, drop-cons, arith}
use Rattle.std.specs.List.{list_all, prefix_len, position, position_or_len}
use Rattle.std.specs.Char.{is_ascii_digit}
use Rattle.std.proofs.lemmas.Bool.{lt-ltb}
use Rattle.em_image.specs.Parts.{value_after, value}

-- what stands in front of the first that fails passes
pub all_prefix : (p q : ℕ → Bool) → ((x : ℕ) → q x ≡ p x) → (xs : List ℕ) → list_all p (take (prefix_len q xs) xs) ≡ true
all_prefix p q same [] = refl
all_prefix p q same (x ∷ xs) =
    let k : 1 + prefix_len q xs ≡ suc (prefix_len q xs) = omega arith in
    elim (p x) as (λ b. p x ≡ b → list_all p (take (prefix_len q (x ∷ xs)) (x ∷ xs)) ≡ true) [
      | true ↦ λ e. rw (same x, e, k, e) (all_prefix p q same xs)
      | false ↦ λ e. rw (same x, e) refl
    ] refl

pub same_not_not : (b : Bool) → not (not b) ≡ b
same_not_not true = refl
same_not_not false = refl

-- the bytes in front of the first that is no digit are digits
pub digits_before : (xs : List ℕ) → list_all is_ascii_digit (take (position_or_len (λ b. not (is_ascii_digit b)) xs) xs) ≡ true
digits_before xs = all_prefix is_ascii_digit (λ b. not (not (is_ascii_digit b))) (λ x. same_not_not (is_ascii_digit x)) xs

pub grows : (n : ℕ) (ds : List ℕ) → n ≤ value_after n ds
grows n [] = omega arith
grows n (d ∷ ds) = omega (arith, grows (10 * n + (d - 48)) ds)

pub value_more : (n : ℕ) (ds : List ℕ) (i : ℕ) → i < length ds → value_after n (drop i ds) ≡ value_after (10 * n + (get_or ds i 0 - 48)) (drop (i + 1) ds)
value_more n ds i lt = rw (add-one, drop-cons ds i 0) refl

which_is : (b : Bool) (k n : ℕ) → Some n ≡ cond b (Some k) None → k ≡ n
which_is true k n e = cc
which_is false k n e = absurd cc

pub taken_digits : (xs : List ℕ) (n : ℕ) → Some n ≡ position (λ b. not (is_ascii_digit b)) xs → list_all is_ascii_digit (take n xs) ≡ true
taken_digits xs n e =
    let k = position_or_len (λ b. not (is_ascii_digit b)) xs in
    subst (λ i. list_all is_ascii_digit (take i xs) ≡ true) (which_is (nat_lt k (length xs)) k n e) (digits_before xs)

-- a number that has passed the limit stays above it
pub is_above : (limit n : ℕ) (ds : List ℕ) (i : ℕ) → i < length ds → value_after n (drop i ds) ≡ value ds → limit < 10 * n + (get_or ds i 0 - 48) → None ≡ cond (nat_lt limit (value ds)) None (Some (value ds))
is_above limit n ds i lt e over =
    let v = 10 * n + (get_or ds i 0 - 48) in
    let more : value_after n (drop i ds) ≡ value_after v (drop (i + 1) ds) = value_more n ds i lt in
    let above : limit < value ds = omega (arith, grows v (drop (i + 1) ds), more, e, over) in
    rw (lt-ltb limit (value ds) above) refl
