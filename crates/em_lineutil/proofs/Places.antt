-- Putting lines in order: what rises and has each line as often is the same list.
--     Rises ls            no line is below one before it
--     count q ls          how often a line stands there
--     rises-sorted, count-sorted      `sorted` rises, and has each line as often
--     only_order          two lists that rise and have each line as often are one
--     sorted_is           what a sort leaves is `sorted`
use Rattle.std.proofs.Common.{◌≡◌, ◌∙◌, ℕ, zero, suc, ◌+◌, ◌<◌, ◌≤◌, Bool, true, false, cond, List, [], ◌∷◌, length, map, get_or, refl, sym, ap, subst, arith, add-one}
use Rattle.std.specs.declared.cmp.Ordering.{Ordering}
use Rattle.std.specs.declared.cmp.Ordering.TheVariants.{Less, Equal, Greater}
use Rattle.std.specs.Ordering.{is_lt, is_eq, ordering_reverse, nat_cmp}
use Rattle.std.specs.Cmp.{IsTotalOrder, IsStrictWeakOrder}
use Rattle.std.specs.Cmp.Lexicographic.{slice_cmp, nat_list_cmp_total}
use Rattle.std.specs.List.{AllByRecursion, sum_by}
use Rattle.std.specs.List.Sorted.{IsSortedBy, IsSorted, IsPermutation}
use Rattle.std.proofs.lemmas.List.Sorted.{ranks_by, sorted_far, sum_by-IsPermutation, IsPermutation-map, IsPermutation-refl, IsPermutation-trans, IsPermutation-swap, IsPermutation-cons}
use Rattle.std.proofs.lemmas.List.Sums.{sum_by-cons}
use Rattle.em_base.proofs.Lemmas.{by_cases, exact}
use Rattle.em_lineutil.specs.Sorting.{placed, sorted}

abbrev Line : Type 0
Line = List ℕ

-- the first is below the second
abbrev below : Line → Line → Bool
below x y = is_lt (slice_cmp nat_cmp x y)

order_of : IsStrictWeakOrder below
order_of = ranks_by nat_list_cmp_total (λ l. l)

-- ---- no line is below one before it

abbrev Above : Line → List Line → Type 0
Above x ls = AllByRecursion (λ y. below y x ≡ false) ls

abbrev pub Rises : List Line → Type 0
Rises [] = Unit {0}
Rises (l ∷ ls) = Above l ls × Rises ls

above-placed : (x l : Line) (ls : List Line) → below l x ≡ false → Above x ls → Above x (placed l ls)
above-placed x l [] h all = (h, tt)
above-placed x l (m ∷ ms) h all = by_cases (below m l) (λ b. Above x (cond b (m ∷ placed l ms) (l ∷ m ∷ ms)))
    (λ _. (all.0, above-placed x l ms h all.1))
    (λ _. (h, all))

above-further : (x y : Line) (ls : List Line) → below y x ≡ false → Above y ls → Above x ls
above-further x y [] h all = tt
above-further x y (l ∷ ls) h all = (order_of.chain l y x all.0 h, above-further x y ls h all.1)

rises-placed : (l : Line) (ls : List Line) → Rises ls → Rises (placed l ls)
rises-placed l [] up = (tt, tt)
rises-placed l (m ∷ ms) up = by_cases (below m l) (λ b. below m l ≡ b → Rises (cond b (m ∷ placed l ms) (l ∷ m ∷ ms)))
    (λ _ low. (above-placed m l ms (order_of.one_way m l low) up.0, rises-placed l ms up.1))
    (λ _ not_low. ((not_low, above-further l m ms not_low up.0), up)) refl

pub rises-sorted : (ls : List Line) → Rises (sorted ls)
rises-sorted [] = tt
rises-sorted (l ∷ ls) = rises-placed l (sorted ls) (rises-sorted ls)

-- ---- how often a line stands there

abbrev same : Line → Line → Bool
same x y = is_eq (slice_cmp nat_cmp x y)

abbrev one : Line → Line → ℕ
one q l = cond (same q l) 1 0

abbrev pub count : Line → List Line → ℕ
count q [] = 0
count q (l ∷ ls) = one q l + count q ls

count-placed : (q l : Line) (ls : List Line) → count q (placed l ls) ≡ one q l + count q ls
count-placed q l [] = refl
count-placed q l (m ∷ ms) = by_cases (below m l) (λ b. count q (cond b (m ∷ placed l ms) (l ∷ m ∷ ms)) ≡ one q l + (one q m + count q ms))
    (λ _. omega (arith, count-placed q l ms))
    (λ _. refl)

pub count-sorted : (q : Line) (ls : List Line) → count q (sorted ls) ≡ count q ls
count-sorted q [] = refl
count-sorted q (l ∷ ls) = count-placed q l (sorted ls) ∙ ap (λ n. one q l + n) (count-sorted q ls)

count_is : (q : Line) (ls : List Line) → count q ls ≡ sum_by (one q) ls
count_is q [] = refl
count_is q (l ∷ ls) = ap (λ n. one q l + n) (count_is q ls) ∙ sym (sum_by-cons (one q) l ls)

pub count-moved : (q : Line) (xs ys : List Line) → IsPermutation xs ys → count q ys ≡ count q xs
count-moved q xs ys h = count_is q ys ∙ sum_by-IsPermutation (one q) xs ys h ∙ sym (count_is q xs)

-- ---- a list that rises is known by its counts

is_equal : (r : Ordering) → is_eq r ≡ true → r ≡ Equal
is_equal Less h = absurd cc
is_equal Equal h = refl
is_equal Greater h = absurd cc

is_itself : (r : Ordering) → r ≡ ordering_reverse r → r ≡ Equal
is_itself Less h = absurd cc
is_itself Equal h = refl
is_itself Greater h = absurd cc

equal-self : (x : Line) → slice_cmp nat_cmp x x ≡ Equal
equal-self x = is_itself (slice_cmp nat_cmp x x) (nat_list_cmp_total.antisymm x x)

same-self : (x : Line) → same x x ≡ true
same-self x = ap is_eq (equal-self x)

between : (r s : Ordering) → r ≡ ordering_reverse s → is_lt r ≡ false → is_lt s ≡ false → r ≡ Equal
between Less s e h k = absurd cc
between Equal s e h k = refl
between Greater Less e h k = absurd cc
between Greater Equal e h k = absurd (let f : Greater ≡ Equal = e in cc)
between Greater Greater e h k = absurd (let f : Greater ≡ Less = e in cc)

-- a line that stands among those above x isn't below x
not_below : (x q : Line) (ls : List Line) → Above x ls → 0 < count q ls → below q x ≡ false
not_below x q [] all some = absurd (omega arith)
not_below x q (l ∷ ls) all some = by_cases (same q l) (λ b. same q l ≡ b → below q x ≡ false)
    (λ _ is. let e : q ≡ l = exact q l (is_equal _ is) in subst (λ (y : Line). below y x ≡ false) (sym e) all.0)
    (λ _ isnt. not_below x q ls all.1 (let z : one q l ≡ 0 = ap (λ (b : Bool). cond b 1 0) isnt in omega (arith, z, some))) refl

-- the first line of a list that rises isn't above one that stands there
first_least : (x q : Line) (ls : List Line) → Above x ls → 0 < count q (x ∷ ls) → below q x ≡ false
first_least x q ls all some = by_cases (same q x) (λ b. same q x ≡ b → below q x ≡ false)
    (λ _ is. ap is_lt (is_equal _ is))
    (λ _ isnt. not_below x q ls all (let z : one q x ≡ 0 = ap (λ (b : Bool). cond b 1 0) isnt in omega (arith, z, some))) refl

stands : (x : Line) (ls : List Line) → 0 < count x (x ∷ ls)
stands x ls = let z : one x x ≡ 1 = ap (λ (b : Bool). cond b 1 0) (same-self x) in omega (arith, z)

pub only_order : (xs ys : List Line) → Rises xs → Rises ys → ((q : Line) → count q xs ≡ count q ys) → xs ≡ ys
only_order [] [] up over alike = refl
only_order [] (y ∷ ys) up over alike = absurd (omega (arith, stands y ys, alike y))
only_order (x ∷ xs) [] up over alike = absurd (omega (arith, stands x xs, alike x))
only_order (x ∷ xs) (y ∷ ys) up over alike =
    let first : below y x ≡ false = first_least x y xs up.0 (omega (arith, stands y ys, alike y)) in
    let other : below x y ≡ false = first_least y x ys over.0 (omega (arith, stands x xs, alike x)) in
    let is : x ≡ y = exact x y (between (slice_cmp nat_cmp x y) (slice_cmp nat_cmp y x) (nat_list_cmp_total.antisymm x y) other first) in
    let rest : xs ≡ ys = only_order xs ys up.1 over.1 (λ q. let h = alike q in let k : one q x ≡ one q y = ap (one q) is in omega (arith, h, k)) in
    ap (λ (l : Line). l ∷ xs) is ∙ ap (λ (ls : List Line). y ∷ ls) rest

-- ---- what a sort leaves

module _ {B : Type 0} (key : B → Line) where
  abbrev lt : B → B → Bool
  lt x y = below (key x) (key y)

  above_all : (x : B) (xs : List B) → ((j : ℕ) (d : B) → j < length xs → lt (get_or xs j d) x ≡ false) → Above (key x) (map key xs)
  above_all x [] h = tt
  above_all x (y ∷ ys) h = (h 0 x (omega arith), above_all x ys (λ j d low. h (suc j) d (omega arith)))

  rises_from_sort : (xs : List B) → IsSortedBy lt xs → Rises (map key xs)
  rises_from_sort [] up = tt
  rises_from_sort (x ∷ xs) up = (
    above_all x xs (λ j d low. sorted_far lt (ranks_by nat_list_cmp_total key) (x ∷ xs) up 0 (suc j) d (omega arith) (omega arith)),
    rises_from_sort xs (λ k d low high. let n : suc k + 1 ≡ suc (k + 1) = omega arith in subst (λ n. lt (get_or (x ∷ xs) n d) (get_or xs k d) ≡ false) n (up (suc k) d (omega arith) (omega arith))),
  )

  pub sorted_is : (xs ys : List B) → IsPermutation xs ys → IsSorted (λ x y. slice_cmp nat_cmp (key x) (key y)) ys → map key ys ≡ sorted (map key xs)
  sorted_is xs ys moved up = only_order (map key ys) (sorted (map key xs)) (rises_from_sort ys up) (rises-sorted (map key xs)) (λ q.
      count-moved q (map key xs) (map key ys) (IsPermutation-map key xs ys moved) ∙ sym (count-sorted q (map key xs)))

-- ---- the law: a rearrangement in rising order

permutation-placed : (l : Line) (ls : List Line) → IsPermutation (l ∷ ls) (placed l ls)
permutation-placed l [] = IsPermutation-refl (l ∷ [])
permutation-placed l (m ∷ ms) = by_cases (below m l) (λ b. IsPermutation (l ∷ m ∷ ms) (cond b (m ∷ placed l ms) (l ∷ m ∷ ms)))
    (λ _. IsPermutation-trans (l ∷ m ∷ ms) (m ∷ l ∷ ms) (m ∷ placed l ms) (IsPermutation-swap (l ∷ m ∷ ms) (m ∷ l ∷ ms) 0 1 (omega arith) (omega arith) refl) (IsPermutation-cons m (l ∷ ms) (placed l ms) (permutation-placed l ms)))
    (λ _. IsPermutation-refl (l ∷ m ∷ ms))

pub permutation-sorted : (ls : List Line) → IsPermutation ls (sorted ls)
permutation-sorted [] = IsPermutation-refl []
permutation-sorted (l ∷ ls) = IsPermutation-trans (l ∷ ls) (l ∷ sorted ls) (sorted (l ∷ ls)) (IsPermutation-cons l ls (sorted ls) (permutation-sorted ls)) (permutation-placed l (sorted ls))

-- what rises in this sense is sorted
above_first : (x : Line) (ls : List Line) (d : Line) → Above x ls → 0 < length ls → below (get_or ls 0 d) x ≡ false
above_first x [] d all low = absurd (omega arith)
above_first x (l ∷ ls) d all low = all.0

steps_up : (ls : List Line) (k : ℕ) (d : Line) → Rises ls → k + 1 < length ls → below (get_or ls (k + 1) d) (get_or ls k d) ≡ false
steps_up [] k d up high = absurd (omega arith)
steps_up (l ∷ ls) zero d up high = above_first l ls d up.0 (omega arith)
steps_up (l ∷ ls) (suc k) d up high = let n : suc k + 1 ≡ suc (k + 1) = omega arith in rw n (steps_up ls k d up.1 (omega arith))

pub sorted-rises : (ls : List Line) → IsSorted (slice_cmp nat_cmp) (sorted ls)
sorted-rises ls = λ k d low high. steps_up (sorted ls) k d (rises-sorted ls) high
