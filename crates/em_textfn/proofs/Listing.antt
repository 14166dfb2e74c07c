-- Lists of words, and of references to words.
use Rattle.std.proofs.Common.{◌≡◌, ℕ, ◌+◌, ◌-◌, ◌<◌, ◌≤◌, inl, inr, Bool, Bor, true, cond, not, List, [], ◌∷◌, ◌++◌, length, map, take, drop, get_or, min, arith, refl, sym, ap, ◌∙◌, length-drop, ltb, zero, suc}
use Rattle.std.specs.List.{filter, Contains}
use Rattle.std.proofs.lemmas.Bool.{cases_lt, both_ways, not-true}
use Rattle.std.proofs.lemmas.List.{take_all, take_rest, drop_all, take-map, drop-map, take_more, map-append}
use Rattle.std.proofs.lemmas.List.Elements.{All-contains, filter-append, filter_passes}
use Rattle.em_textfn.specs.Texts.{nonempty, word_range}

-- ---- the words from one number up to another

no_end : {X : Type 0} (xs : List X) (n m : ℕ) → length xs ≤ m → take n (drop m xs) ≡ []
no_end xs zero m l = refl
no_end xs (suc n) m l = ap (take (suc n)) (drop_all m xs l)

pub range_is : {X : Type 0} (xs : List X) (s e start end : ℕ) → 1 ≤ s → end ≡ min e (length xs) → start ≡ min (s - 1) end → take (end - start) (drop start xs) ≡ take (e + 1 - s) (drop (s - 1) xs)
range_is xs s e start end one high low =
    elim (cases_lt end (s - 1)) [
      | inl l ↦
          let here : end - start ≡ 0 = omega arith in
          let none : take (end - start) (drop start xs) ≡ [] = ap (λ k. take k (drop start xs)) here in
          none ∙ sym (elim (cases_lt e (s - 1)) [
            | inl m ↦ ap (λ k. take k (drop (s - 1) xs)) (let z : e + 1 - s ≡ 0 = omega arith in z)
            | inr g ↦ no_end xs (e + 1 - s) (s - 1) (omega arith)
          ])
      | inr g ↦
          let is : start ≡ s - 1 = omega arith in
          let moved : take (end - start) (drop start xs) ≡ take (end - (s - 1)) (drop (s - 1) xs) = ap (λ k. take (end - k) (drop k xs)) is in
          moved ∙ elim (cases_lt (length xs) e) [
            | inl m ↦
                let all : end ≡ length xs = omega arith in
                ap (λ k. take (k - (s - 1)) (drop (s - 1) xs)) all ∙ take_rest xs (s - 1) ∙ sym (take_all (e + 1 - s) (drop (s - 1) xs) (omega (arith, length-drop (s - 1) xs)))
            | inr m ↦ ap (λ k. take k (drop (s - 1) xs)) (let z : end - (s - 1) ≡ e + 1 - s = omega arith in z)
          ]
    ]

pub range_of_words : (rs : List (Bor (List ℕ))) (s e start end : ℕ) → 1 ≤ s → end ≡ min e (length rs) → start ≡ min (s - 1) end → map (λ r. r.now) (take (end - start) (drop start rs)) ≡ word_range s e (map (λ r. r.now) rs)
range_of_words rs s e start end one high low =
    ap (map (λ r. r.now)) (range_is rs s e start end one high low)
    ∙ sym (ap (take (e + 1 - s)) (drop-map (λ (r : Bor (List ℕ)). r.now) (s - 1) rs) ∙ take-map (λ (r : Bor (List ℕ)). r.now) (e + 1 - s) (drop (s - 1) rs))

-- ---- words that are replaced one by one

-- a word more, which stays unless it is empty
pub replaced_more : (f : List ℕ → List ℕ) (rs : List (Bor (List ℕ))) (i : ℕ) (d : Bor (List ℕ)) → i < length rs
    → nonempty (map (λ r. f r.now) (take (i + 1) rs)) ≡ nonempty (map (λ r. f r.now) (take i rs)) ++ cond (ltb 0 (length (f (get_or rs i d).now))) (f (get_or rs i d).now ∷ []) []
replaced_more f rs i d low =
    ap (λ (qs : List (Bor (List ℕ))). nonempty (map (λ r. f r.now) qs)) (take_more rs i d low)
    ∙ ap nonempty (map-append (λ r. f r.now) (take i rs) (get_or rs i d ∷ []))
    ∙ filter-append (λ w. ltb 0 (length w)) (map (λ r. f r.now) (take i rs)) (f (get_or rs i d).now ∷ [])

-- what passes a test doesn't fail it
pub filters_apart : {X : Type 0} (p : X → Bool) (xs : List X) (x : X) → Contains (filter p xs) x → Contains (filter (λ y. not (p y)) xs) x → ⊥
filters_apart p xs x in_one in_other =
    both_ways (p x) (not-true (p x) (All-contains (λ y. not (p y) ≡ true) _ x (filter_passes (λ y. not (p y)) xs) in_other)) (All-contains (λ y. p y ≡ true) _ x (filter_passes p xs) in_one)
