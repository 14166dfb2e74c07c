-- Items put in order by a size, those of one size in the order in which they came.
--     Low n xs             none is smaller than n
--     Rising xs            none is smaller than one before it
--     put_rising           putting one more in keeps that
--     sorted_is            what rises and has the items of one size in the same order is the sorted list
--     sorted_map           the sorted list of images
--     sort_is              what a sort by a key ensures
use Rattle.std.proofs.Common.{◌≡◌, ◌∙◌, refl, sym, ap, ℕ, suc, ◌<◌, ◌≤◌, ◌==◌, Bool, true, false, not, ◌&&◌, cond, ltb, List, [], ◌∷◌, ◌++◌, map, length, get_or, arith, ltb-true, ltb-false, le-ltb, lt-ltb, append-nil, append_assoc}
use Rattle.std.specs.Prelude.{fold}
use Rattle.std.specs.List.{filter}
use Rattle.std.specs.declared.cmp.Ordering.TheVariants.{Less, Equal, Greater}
use Rattle.std.specs.Ordering.{is_lt, nat_cmp}
use Rattle.std.specs.List.Sorted.{IsStableByKey, IsNonDecreasingBy}
use Rattle.std.proofs.lemmas.Bool.{and_parts, not-true}
use Rattle.em_base.proofs.Lemmas.{by_cases}
use Rattle.em_implicit.specs.Seeking.{put, sorted}

is_less : (m n : ℕ) → is_lt (nat_cmp m n) ≡ ltb m n
is_less m n = by (ltb m n) (m == n)
  where
    by : (t u : Bool) → is_lt (cond t Less (cond u Equal Greater)) ≡ t
    by true u = refl
    by false true = refl
    by false false = refl

-- neither number is smaller
abbrev even : ℕ → ℕ → Bool
even m n = not (is_lt (nat_cmp m n)) && not (is_lt (nat_cmp n m))

even_is : (m n : ℕ) → even m n ≡ true → m ≡ n
even_is m n h =
    let parts = and_parts _ _ h in
    let a : n ≤ m = ltb-false m n (sym (is_less m n) ∙ not-true _ parts.0) in
    let b : m ≤ n = ltb-false n m (sym (is_less n m) ∙ not-true _ parts.1) in
    omega arith

is_even : (m n : ℕ) → m ≡ n → even m n ≡ true
is_even m n e =
    let a : ltb m n ≡ false = le-ltb m n (omega arith) in
    let b : ltb n m ≡ false = le-ltb n m (omega arith) in
    ap (λ t. not t && not (is_lt (nat_cmp n m))) (is_less m n ∙ a) ∙ ap (λ t. not false && not t) (is_less n m ∙ b)

odd : (m n : ℕ) → m < n → even m n ≡ false
odd m n lt = ap (λ t. not t && not (is_lt (nat_cmp n m))) (is_less m n ∙ lt-ltb m n lt)

module _ {X : Type 0} (size : X → ℕ) where
  -- those that are as large as x
  abbrev only : X → List X → List X
  only x ys = filter (λ y. even (size x) (size y)) ys

  abbrev pub Low : ℕ → List X → Type 0
  Low n [] = Unit {0}
  Low n (x ∷ xs) = (n ≤ size x) × Low n xs

  abbrev pub Rising : List X → Type 0
  Rising [] = Unit {0}
  Rising (x ∷ xs) = Low (size x) xs × Rising xs

  lower : (m n : ℕ) → m ≤ n → (xs : List X) → Low n xs → Low m xs
  lower m n le [] h = tt
  lower m n le (x ∷ xs) h = (omega (arith, h.0), lower m n le xs h.1)

  -- ---- putting one in

  put_low : (n : ℕ) (ys : List X) (x : X) → Low n ys → n ≤ size x → Low n (put size ys x)
  put_low n [] x h le = (le, tt)
  put_low n (y ∷ ys) x h le = by_cases (ltb (size x) (size y)) (λ t. ltb (size x) (size y) ≡ t → Low n (cond t (x ∷ y ∷ ys) (y ∷ put size ys x)))
      (λ _ is. (le, h)) (λ _ isnt. (h.0, put_low n ys x h.1 le)) refl

  pub put_rising : (ys : List X) (x : X) → Rising ys → Rising (put size ys x)
  put_rising [] x h = (tt, tt)
  put_rising (y ∷ ys) x h = by_cases (ltb (size x) (size y)) (λ t. ltb (size x) (size y) ≡ t → Rising (cond t (x ∷ y ∷ ys) (y ∷ put size ys x)))
      (λ _ is. let less : size x < size y = ltb-true _ _ is in let le : size x ≤ size y = omega arith in ((le, lower (size x) (size y) le ys h.0), h))
      (λ _ isnt. let le : size y ≤ size x = ltb-false _ _ isnt in (put_low (size y) ys x h.0 le, put_rising ys x h.1)) refl

  fold_rising : (ys xs : List X) → Rising ys → Rising (fold (put size) ys xs)
  fold_rising ys [] h = h
  fold_rising ys (x ∷ xs) h = fold_rising (put size ys x) xs (put_rising ys x h)

  -- ---- those of one size stay in order

  none_even : (x : X) (n : ℕ) (ys : List X) → size x < n → Low n ys → only x ys ≡ []
  none_even x n [] lt h = refl
  none_even x n (y ∷ ys) lt h = ap (λ t. cond t (y ∷ only x ys) (only x ys)) (odd (size x) (size y) (omega (arith, h.0))) ∙ none_even x n ys lt h.1

  module _ (x : X) (ys : List X) (y c : X) where
    put_before : (t : Bool) → (t ≡ true → only x (y ∷ ys) ≡ []) → cond t (c ∷ only x (y ∷ ys)) (only x (y ∷ ys)) ≡ only x (y ∷ ys) ++ cond t (c ∷ []) []
    put_before true none = ap (λ (es : List X). c ∷ es) (none refl) ∙ sym (ap (λ (es : List X). es ++ c ∷ []) (none refl))
    put_before false none = sym (append-nil (only x (y ∷ ys)))

    put_behind : (t : Bool) → only x (put size ys c) ≡ only x ys ++ only x (c ∷ []) → cond t (y ∷ only x (put size ys c)) (only x (put size ys c)) ≡ cond t (y ∷ only x ys) (only x ys) ++ only x (c ∷ [])
    put_behind true e = ap (λ (es : List X). y ∷ es) e
    put_behind false e = e

  only_put : (x : X) (ys : List X) (c : X) → Rising ys → only x (put size ys c) ≡ only x ys ++ only x (c ∷ [])
  only_put x [] c h = refl
  only_put x (y ∷ ys) c h = by_cases (ltb (size c) (size y)) (λ t. ltb (size c) (size y) ≡ t → only x (cond t (c ∷ y ∷ ys) (y ∷ put size ys c)) ≡ only x (y ∷ ys) ++ only x (c ∷ []))
      (λ _ is. let less : size c < size y = ltb-true _ _ is in
      put_before x ys y c (even (size x) (size c)) (λ e. let same : size x ≡ size c = even_is (size x) (size c) e in none_even x (size y) (y ∷ ys) (omega arith) (omega arith, h.0)))
      (λ _ isnt. put_behind x ys y c (even (size x) (size y)) (only_put x ys c h.1)) refl

  only_first : (x c : X) (xs : List X) → only x (c ∷ xs) ≡ only x (c ∷ []) ++ only x xs
  only_first x c xs = by (even (size x) (size c))
    where
      by : (t : Bool) → cond t (c ∷ only x xs) (only x xs) ≡ cond t (c ∷ []) [] ++ only x xs
      by true = refl
      by false = refl

  only_fold : (x : X) (ys xs : List X) → Rising ys → only x (fold (put size) ys xs) ≡ only x ys ++ only x xs
  only_fold x ys [] h = sym (append-nil (only x ys))
  only_fold x ys (c ∷ xs) h =
      only_fold x (put size ys c) xs (put_rising ys c h) ∙ ap (λ (es : List X). es ++ only x xs) (only_put x ys c h)
      ∙ append_assoc (only x ys) (only x (c ∷ [])) (only x xs) ∙ ap (λ (es : List X). only x ys ++ es) (sym (only_first x c xs))

  -- ---- no other list is so

  own_even : (x : X) (xs : List X) → only x (x ∷ xs) ≡ x ∷ only x xs
  own_even x xs = ap (λ t. cond t (x ∷ only x xs) (only x xs)) (is_even (size x) (size x) refl)

  no_item : (x : X) (xs : List X) → x ∷ xs ≡ [] → ⊥
  no_item x xs e = cc

  not_smaller : (x y : X) (xs ys : List X) → Low (size y) ys → only x (x ∷ xs) ≡ only x (y ∷ ys) → size x < size y → ⊥
  not_smaller x y xs ys low e lt = no_item x (only x xs) (sym (own_even x xs) ∙ e ∙ none_even x (size y) (y ∷ ys) lt (omega arith, low))

  same_head : (x y : X) (xs ys : List X) → x ∷ xs ≡ y ∷ ys → x ≡ y
  same_head x y xs ys e = cc

  same_tail : (x y : X) (xs ys : List X) → x ∷ xs ≡ y ∷ ys → xs ≡ ys
  same_tail x y xs ys e = cc

  first_is : (x y : X) (xs ys : List X) → size x ≡ size y → only x (x ∷ xs) ≡ only x (y ∷ ys) → x ≡ y
  first_is x y xs ys e same = same_head x y (only x xs) (only x ys) (sym (own_even x xs) ∙ same ∙ ap (λ t. cond t (y ∷ only x ys) (only x ys)) (is_even (size x) (size y) e))

  rest_even : (z x : X) (xs ys : List X) → only z (x ∷ xs) ≡ only z (x ∷ ys) → only z xs ≡ only z ys
  rest_even z x xs ys e = by (even (size z) (size x)) e
    where
      by : (t : Bool) → cond t (x ∷ only z xs) (only z xs) ≡ cond t (x ∷ only z ys) (only z ys) → only z xs ≡ only z ys
      by true h = same_tail x x (only z xs) (only z ys) h
      by false h = h

  neither : (m n : ℕ) → (m < n → ⊥) → (n < m → ⊥) → m ≡ n
  neither m n a b = omega (arith, a, b)

  same_order : (xs ys : List X) → Rising xs → Rising ys → ((x : X) → only x xs ≡ only x ys) → xs ≡ ys
  same_order [] [] a b same = refl
  same_order [] (y ∷ ys) a b same = absurd (no_item y (only y ys) (sym (own_even y ys) ∙ sym (same y)))
  same_order (x ∷ xs) [] a b same = absurd (no_item x (only x xs) (sym (own_even x xs) ∙ same x))
  same_order (x ∷ xs) (y ∷ ys) a b same =
      let level : size x ≡ size y = neither (size x) (size y) (not_smaller x y xs ys b.0 (same x)) (not_smaller y x ys xs a.0 (sym (same y))) in
      let head : x ≡ y = first_is x y xs ys level (same x) in
      let alike : (z : X) → only z xs ≡ only z ys = λ z. rest_even z x xs ys (same z ∙ ap (λ (c : X). only z (c ∷ ys)) (sym head)) in
      ap (λ (c : X). c ∷ xs) head ∙ ap (λ (cs : List X). y ∷ cs) (same_order xs ys a.1 b.1 alike)

  pub sorted_is : (xs ys : List X) → Rising ys → ((x : X) → only x ys ≡ only x xs) → ys ≡ sorted size xs
  sorted_is xs ys up stable = same_order ys (sorted size xs) up (fold_rising [] xs tt) (λ x. stable x ∙ sym (only_fold x [] xs tt))

  -- ---- what a sort ensures

  low_from : (x : X) (xs : List X) → ((k : ℕ) → k < length xs → size x ≤ size (get_or xs k x)) → (d : X) → ((k : ℕ) → k < length xs → size d ≤ size (get_or xs k x)) → Low (size d) xs
  low_from x [] h d g = tt
  low_from x (y ∷ ys) h d g = (g 0 (omega arith), low_from x ys (λ k lt. h (suc k) (omega arith)) d (λ k lt. g (suc k) (omega arith)))

  rising_from : (xs : List X) → IsNonDecreasingBy size xs → Rising xs
  rising_from [] h = tt
  rising_from (x ∷ xs) h = (
    low_from x xs (λ k lt. h 0 (suc k) x (omega arith) (omega arith)) x (λ k lt. h 0 (suc k) x (omega arith) (omega arith)),
    rising_from xs (λ i j d le lt. h (suc i) (suc j) d (omega arith) (omega arith)),
  )

  pub sort_is : (xs ys : List X) → IsNonDecreasingBy size ys → IsStableByKey size nat_cmp xs ys → ys ≡ sorted size xs
  sort_is xs ys up stable = sorted_is xs ys (rising_from ys up) stable

-- ---- images

module _ {X Y : Type 0} (f : X → Y) (size : Y → ℕ) where
  put_map : (ys : List X) (x : X) → map f (put (λ z. size (f z)) ys x) ≡ put size (map f ys) (f x)
  put_map [] x = refl
  put_map (y ∷ ys) x = by (ltb (size (f x)) (size (f y))) (put_map ys x)
    where
      by : (t : Bool) → map f (put (λ z. size (f z)) ys x) ≡ put size (map f ys) (f x) → map f (cond t (x ∷ y ∷ ys) (y ∷ put (λ z. size (f z)) ys x)) ≡ cond t (f x ∷ f y ∷ map f ys) (f y ∷ put size (map f ys) (f x))
      by true e = refl
      by false e = ap (λ (es : List Y). f y ∷ es) e

  fold_map : (ys xs : List X) → map f (fold (put (λ z. size (f z))) ys xs) ≡ fold (put size) (map f ys) (map f xs)
  fold_map ys [] = refl
  fold_map ys (x ∷ xs) = fold_map (put (λ z. size (f z)) ys x) xs ∙ ap (λ (es : List Y). fold (put size) es (map f xs)) (put_map ys x)

  pub sorted_map : (xs : List X) → map f (sorted (λ z. size (f z)) xs) ≡ sorted size (map f xs)
  sorted_map xs = fold_map [] xs
