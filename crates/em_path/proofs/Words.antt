-- Texts compared by the numbers that their first bytes spell.
use Rattle.std.proofs.Common.{◌≡◌, ◌≢◌, ◌⊎◌, inl, inr, ◌++◌, min, ◌-◌, ℕ, zero, suc, ◌+◌, ◌*◌, ◌<◌, ◌≤◌, List, [], ◌∷◌, length, take, drop, get_or, get_or-drop, refl, sym, ap, subst, ◌∙◌, arith}
use Rattle.std.proofs.lemmas.List.{length-drop, take-take}
use Rattle.std.proofs.Math.Nat.{min-le_left, min-le_right, min-eq_left, min-eq_right}
use Rattle.std.proofs.lemmas.Bool.{cases_lt}
use Rattle.std.specs.declared.cmp.Ordering.{Ordering}
use Rattle.std.specs.declared.cmp.Ordering.TheVariants.{Less, Equal, Greater}
use Rattle.std.specs.Ordering.{nat_cmp, ordering_then, MatchOrdering}
use Rattle.std.specs.Cmp.{ranks}
use Rattle.std.specs.Cmp.Lexicographic.{slice_cmp}
use Rattle.std.specs.Slice.Scan.{big_endian}

abbrev pub Bytes : List ℕ → Type 0
Bytes xs = (k : ℕ) → get_or xs k 0 < 256

less : (x y : ℕ) → x < y → nat_cmp x y ≡ Less
less x y lt = by (nat_cmp x y) (ranks x y)
  where
    by : (r : Ordering) → MatchOrdering r (x < y) (x ≡ y) (y < x) → r ≡ Less
    by Less h = refl
    by Equal h = let e : x ≡ y = h in absurd (omega arith)
    by Greater h = let e : y < x = h in absurd (omega arith)

greater : (x y : ℕ) → y < x → nat_cmp x y ≡ Greater
greater x y lt = by (nat_cmp x y) (ranks x y)
  where
    by : (r : Ordering) → MatchOrdering r (x < y) (x ≡ y) (y < x) → r ≡ Greater
    by Less h = let e : x < y = h in absurd (omega arith)
    by Equal h = let e : x ≡ y = h in absurd (omega arith)
    by Greater h = refl

rises : (n a b : ℕ) (us vs : List ℕ) → n ≤ length us → n ≤ length vs → Bytes us → a < b → big_endian a (take n us) < big_endian b (take n vs)
rises zero a b us vs p q h l = l
rises (suc n) a b [] vs p q h l = absurd (omega arith)
rises (suc n) a b (u ∷ us) [] p q h l = absurd (omega arith)
rises (suc n) a b (u ∷ us) (v ∷ vs) p q h l =
    let small : u < 256 = h 0 in
    rises n (a * 256 + u) (b * 256 + v) us vs (omega arith) (omega arith) (λ k. h (suc k)) (omega arith)

-- x and y are what the first n bytes spell: they compare as the texts, or the bytes are the same
pub record Spelled (us vs : List ℕ) (n x y : ℕ) : Type 0 where
  pub apart : x ≢ y → slice_cmp nat_cmp us vs ≡ nat_cmp x y
  pub alike : x ≡ y → take n us ≡ take n vs

spells : (n a : ℕ) (us vs : List ℕ) → n ≤ length us → n ≤ length vs → Bytes us → Bytes vs → Spelled us vs n (big_endian a (take n us)) (big_endian a (take n vs))
spells zero a us vs p q g h = record { apart = λ f. absurd (f refl); alike = λ s. refl }
spells (suc n) a [] vs p q g h = absurd (omega arith)
spells (suc n) a (u ∷ us) [] p q g h = absurd (omega arith)
spells (suc n) a (u ∷ us) (v ∷ vs) p q g h = by (spells n (a * 256 + u) us vs (omega arith) (omega arith) (λ k. g (suc k)) (λ k. h (suc k))) (nat_cmp u v) refl (ranks u v)
  where
    by : Spelled us vs n (big_endian (a * 256 + u) (take n us)) (big_endian (a * 256 + u) (take n vs)) → (r : Ordering) → nat_cmp u v ≡ r → MatchOrdering r (u < v) (u ≡ v) (v < u)
        → Spelled (u ∷ us) (v ∷ vs) (suc n) (big_endian (a * 256 + u) (take n us)) (big_endian (a * 256 + v) (take n vs))
    by more Less e l =
        let under : u < v = l in
        let t = rises n (a * 256 + u) (a * 256 + v) us vs (omega arith) (omega arith) (λ k. g (suc k)) (omega arith) in
        record { apart = λ f. ap (λ r. ordering_then r (slice_cmp nat_cmp us vs)) e ∙ sym (less _ _ t); alike = λ s. absurd (omega arith) }
    by more Greater e l =
        let over : v < u = l in
        let t = rises n (a * 256 + v) (a * 256 + u) vs us (omega arith) (omega arith) (λ k. h (suc k)) (omega arith) in
        record { apart = λ f. ap (λ r. ordering_then r (slice_cmp nat_cmp us vs)) e ∙ sym (greater _ _ t); alike = λ s. absurd (omega arith) }
    by more Equal e l =
        let level : u ≡ v = l in
        let t = subst (λ z. Spelled us vs n (big_endian (a * 256 + u) (take n us)) (big_endian (a * 256 + z) (take n vs))) level more in
        record { apart = λ f. ap (λ r. ordering_then r (slice_cmp nat_cmp us vs)) e ∙ t.apart f; alike = λ s. λ i. level i ∷ t.alike s i }

-- n bytes from i on
pub window : (xs ys : List ℕ) → Bytes xs → Bytes ys → (i n x y : ℕ) → i + n ≤ length xs → i + n ≤ length ys
    → x ≡ big_endian 0 (take n (drop i xs)) → y ≡ big_endian 0 (take n (drop i ys)) → Spelled (drop i xs) (drop i ys) n x y
window xs ys bx by i n x y p q a b =
    rw (a, b) (spells n 0 (drop i xs) (drop i ys) (omega (arith, length-drop i xs)) (omega (arith, length-drop i ys))
    (λ k. subst (λ z. z < 256) (sym (get_or-drop i xs k 0)) (bx (i + k))) (λ k. subst (λ z. z < 256) (sym (get_or-drop i ys k 0)) (by (i + k))))

same_number : (u : ℕ) → nat_cmp u u ≡ Equal
same_number u = by (nat_cmp u u) (ranks u u)
  where
    by : (r : Ordering) → MatchOrdering r (u < u) (u ≡ u) (u < u) → r ≡ Equal
    by Less h = let e : u < u = h in absurd (omega arith)
    by Equal h = refl
    by Greater h = let e : u < u = h in absurd (omega arith)

-- where the first n bytes are the same, the texts compare as what is left of them
left : (n : ℕ) (us vs : List ℕ) → n ≤ length us → n ≤ length vs → take n us ≡ take n vs → slice_cmp nat_cmp us vs ≡ slice_cmp nat_cmp (drop n us) (drop n vs)
left zero us vs p q e = refl
left (suc n) [] vs p q e = absurd (omega arith)
left (suc n) (u ∷ us) [] p q e = absurd (omega arith)
left (suc n) (u ∷ us) (v ∷ vs) p q e =
    let first : u ≡ v = cc in
    let rest : take n us ≡ take n vs = cc in
    ap (λ r. ordering_then r (slice_cmp nat_cmp us vs)) (ap (nat_cmp u) (sym first) ∙ same_number u) ∙ left n us vs (omega arith) (omega arith) rest

lengths : (us vs : List ℕ) → (length us ≡ 0) ⊎ (length vs ≡ 0) → slice_cmp nat_cmp us vs ≡ nat_cmp (length us) (length vs)
lengths [] [] h = sym (same_number 0)
lengths [] (v ∷ vs) h = sym (less 0 (length (v ∷ vs)) (omega arith))
lengths (u ∷ us) [] h = sym (greater (length (u ∷ us)) 0 (omega arith))
lengths (u ∷ us) (v ∷ vs) (inl e) = absurd (omega arith)
lengths (u ∷ us) (v ∷ vs) (inr e) = absurd (omega arith)

moved : (n a b : ℕ) → nat_cmp (n + a) (n + b) ≡ nat_cmp a b
moved n a b = by (nat_cmp a b) (ranks a b)
  where
    by : (r : Ordering) → MatchOrdering r (a < b) (a ≡ b) (b < a) → nat_cmp (n + a) (n + b) ≡ r
    by Less h = let e : a < b = h in less (n + a) (n + b) (omega arith)
    by Equal h = let e : a ≡ b = h in ap (λ k. nat_cmp (n + a) (n + k)) (sym e) ∙ same_number (n + a)
    by Greater h = let e : b < a = h in greater (n + a) (n + b) (omega arith)

-- where all bytes of the shorter one are the same, the texts compare as their lengths
pub ended : (n : ℕ) (us vs : List ℕ) → n ≡ min (length us) (length vs) → take n us ≡ take n vs → slice_cmp nat_cmp us vs ≡ nat_cmp (length us) (length vs)
ended n us vs m e =
    let p : n ≤ length us = omega (arith, min-le_left (length us) (length vs)) in
    let q : n ≤ length vs = omega (arith, min-le_right (length us) (length vs)) in
    left n us vs p q e ∙ lengths (drop n us) (drop n vs) (which (length us) (length vs) m (length-drop n us) (length-drop n vs))
    ∙ sym (moved n _ _) ∙ (λ i. nat_cmp (whole us p i) (whole vs q i))
  where
    which : (a b : ℕ) {c d : ℕ} → n ≡ min a b → c ≡ a - n → d ≡ b - n → (c ≡ 0) ⊎ (d ≡ 0)
    which a b m x y = elim (cases_lt a b) [
      | inl h ↦ let less : a ≤ b = omega arith in let e : min a b ≡ a = min-eq_left less in inl (omega arith)
      | inr h ↦ let e : min a b ≡ b = min-eq_right h in inr (omega arith)
    ]

    whole : (xs : List ℕ) → n ≤ length xs → n + length (drop n xs) ≡ length xs
    whole xs p = omega (arith, length-drop n xs)

-- n more bytes are the same, which may overlap the k before
pub further : (i n k : ℕ) (us vs : List ℕ) → i ≤ k → take k us ≡ take k vs → take n (drop i us) ≡ take n (drop i vs) → take (i + n) us ≡ take (i + n) vs
further i n k us vs p e f =
    let before : take i us ≡ take i vs = sym (take-take i k us p) ∙ ap (take i) e ∙ take-take i k vs p in
    added us ∙ (λ j. before j ++ f j) ∙ sym (added vs)
  where
    added : (xs : List ℕ) → take (i + n) xs ≡ take i xs ++ take n (drop i xs)
    added xs = parts i xs
      where
        parts : (i : ℕ) (xs : List ℕ) → take (i + n) xs ≡ take i xs ++ take n (drop i xs)
        parts zero xs = ap (λ k. take k xs) (omega arith)
        parts (suc i) [] = none (suc i + n) ∙ sym (none n)
          where
            none : (n : ℕ) → take {A = ℕ} n [] ≡ []
            none zero = refl
            none (suc n) = refl
        parts (suc i) (x ∷ xs) =
            let e : suc i + n ≡ suc (i + n) = omega arith in
            ap (λ k. take k (x ∷ xs)) e ∙ ap (λ ys. x ∷ ys) (parts i xs)

-- the texts compare as two words from i on, where the bytes before are the same
pub by_word : (i n k x y : ℕ) (us vs : List ℕ) → i ≤ k → i ≤ length us → i ≤ length vs → take k us ≡ take k vs → Spelled (drop i us) (drop i vs) n x y → x ≢ y → slice_cmp nat_cmp us vs ≡ nat_cmp x y
by_word i n k x y us vs p a b e read other = left i us vs a b (sym (take-take i k us p) ∙ ap (take i) e ∙ take-take i k vs p) ∙ read.apart other
