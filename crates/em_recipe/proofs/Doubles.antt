-- Names without doubles, as they are found one by one.
--     left            the names that are left, without those that were seen
--     left_all        at first
--     left_seen, left_new      one of them was seen, or wasn't
--     turn_seen, turn_new      the same in a loop
--     same_names, each_once    what is there without doubles
use Rattle.std.proofs.Common.{◌≡◌, ◌∙◌, ◌+◌, ◌<◌, ◌≤◌, ◌&&◌, ◌||◌, Bool, true, false, cond, Bor, List, [], ◌∷◌, ℕ, Option, Some, add-one, ap, arith, drop, drop-cons, get_or, length, map, refl, sym}
use Rattle.std.specs.Prelude.{is_some, not, option_copied}
use Rattle.std.specs.List.{count_by, filter, list_any}
use Rattle.std.specs.Cmp.Lexicographic.{nat_list_eq_equiv}
use Rattle.std.proofs.lemmas.List.Sums.{length-filter}
use Rattle.std.proofs.lemmas.Map.Views.{any-filter_same}
use Rattle.std.specs.Str.{bytes_eq}
use Rattle.std.specs.FinMap as table
use Rattle.std.specs.FinMap.{FinMap, get-empty}
use Rattle.std.proofs.lemmas.Map.Text.{is_eq-slice_cmp}
use Rattle.std.proofs.lemmas.Slice.Eq.{bytes_eq-Decides}
use Rattle.em_base.proofs.Lemmas.{by_cases, order, get_put, missing, present}
use Rattle.em_recipe.specs.Automatic.{once}

abbrev pub Seen : Type 0
Seen = FinMap order (Unit {0})

abbrev fresh : Seen → List ℕ → Bool
fresh seen n = not (is_some (table.get seen n))

abbrev other : List ℕ → List ℕ → Bool
other x y = not (bytes_eq y x)

abbrev pub left : Seen → List (List ℕ) → List (List ℕ)
left seen names = filter (fresh seen) (once names)

same_test : (p q : List ℕ → Bool) → ((x : List ℕ) → p x ≡ q x) → (xs : List (List ℕ)) → filter p xs ≡ filter q xs
same_test p q same [] = refl
same_test p q same (x ∷ xs) = rw (same x, same_test p q same xs) refl

all_pass : (p : List ℕ → Bool) → ((x : List ℕ) → p x ≡ true) → (xs : List (List ℕ)) → filter p xs ≡ xs
all_pass p pass [] = refl
all_pass p pass (x ∷ xs) = rw (pass x, all_pass p pass xs) refl

two_tests : (p q : List ℕ → Bool) (xs : List (List ℕ)) → filter p (filter q xs) ≡ filter (λ x. q x && p x) xs
two_tests p q [] = refl
two_tests p q (x ∷ xs) = by_cases (q x)
    (λ b. filter p (cond b (x ∷ filter q xs) (filter q xs)) ≡ cond (b && p x) (x ∷ filter (λ x. q x && p x) xs) (filter (λ x. q x && p x) xs))
    (λ _. rw (two_tests p q xs) refl)
    (λ _. two_tests p q xs)

pub left_all : (names : List (List ℕ)) → left table.empty names ≡ once names
left_all names = all_pass (fresh table.empty) (λ n. ap (λ o. not (is_some o)) (get-empty order n)) (once names)

pub left_seen : (seen : Seen) (x : List ℕ) (names : List (List ℕ)) → is_some (table.get seen x) ≡ true → left seen (x ∷ names) ≡ left seen names
left_seen seen x names there =
    let same = λ (y : List ℕ). by_cases (bytes_eq y x) (λ b. bytes_eq y x ≡ b → (not b && fresh seen y) ≡ fresh seen y)
    (λ _ is. rw ((bytes_eq-Decides y x).0 is, there) refl)
    (λ _ _. refl) refl in
    rw there (two_tests (fresh seen) (other x) (once names) ∙ same_test _ (fresh seen) same (once names))

pub left_new : (seen : Seen) (x : List ℕ) (names : List (List ℕ)) → is_some (table.get seen x) ≡ false → left seen (x ∷ names) ≡ x ∷ left (table.insert seen x tt) names
left_new seen x names absent =
    let same = λ (y : List ℕ). by_cases (bytes_eq y x) (λ b. (not b && fresh seen y) ≡ not (is_some (cond b (Some tt) (table.get seen y))))
    (λ _. refl) (λ _. refl)
    ∙ ap (λ o. not (is_some o)) (sym (get_put seen x tt y ∙ ap (λ b. cond b (Some tt) (table.get seen y)) (is_eq-slice_cmp y x))) in
    rw absent (ap (λ ys. x ∷ ys) (two_tests (fresh seen) (other x) (once names) ∙ same_test _ (fresh (table.insert seen x tt)) same (once names)))

-- ---- a turn, over references

abbrev pub now : List (Bor (List ℕ)) → List (List ℕ)
now names = map (λ (n : Bor (List ℕ)). n.now) names

module _ (names : List (Bor (List ℕ))) (i : ℕ) (low : i < length names) where
  abbrev name : List ℕ
  name = (get_or names i record { ref_ptr = (0, 0); now = [] }).now

  next : now (drop i names) ≡ name ∷ now (drop (i + 1) names)
  next = rw (add-one, drop-cons names i record { ref_ptr = (0, 0); now = [] } low) refl

  pub turn_seen : (seen : Seen) (r : Option (Bor (Unit {0}))) → option_copied r ≡ table.get seen name → is_some r ≡ true → left seen (now (drop i names)) ≡ left seen (now (drop (i + 1) names))
  turn_seen seen r found there = ap (left seen) next ∙ left_seen seen name _ (present r _ found there)

  pub turn_new : (seen : Seen) (r : Option (Bor (Unit {0}))) → option_copied r ≡ table.get seen name → is_some r ≡ false → left seen (now (drop i names)) ≡ name ∷ left (table.insert seen name tt) (now (drop (i + 1) names))
  turn_new seen r found absent = ap (left seen) next ∙ left_new seen name _ (ap is_some (missing r _ found absent))

-- ---- the same names, each once

bytes_same : (n x : List ℕ) → bytes_eq n x ≡ true → n ≡ x
bytes_same n x = (bytes_eq-Decides n x).0

-- another name passes
passes : (n x : List ℕ) → bytes_eq n x ≡ false → (k : List ℕ) → bytes_eq n k ≡ true → other x k ≡ true
passes n x differs k is = rw (← bytes_same n k is, differs) refl

pub same_names : (names : List (List ℕ)) (n : List ℕ) → list_any (bytes_eq n) (once names) ≡ list_any (bytes_eq n) names
same_names [] n = refl
same_names (x ∷ xs) n = by_cases (bytes_eq n x) (λ b. bytes_eq n x ≡ b → (b || list_any (bytes_eq n) (filter (other x) (once xs))) ≡ (b || list_any (bytes_eq n) xs))
    (λ _ _. refl)
    (λ _ differs. any-filter_same (bytes_eq n) (other x) true (passes n x differs) (once xs) ∙ same_names xs n) refl

-- none of the name that is taken out is left
none_left : (n : List ℕ) (ns : List (List ℕ)) → filter (bytes_eq n) (filter (other n) ns) ≡ []
none_left n [] = refl
none_left n (m ∷ ms) = by_cases (bytes_eq m n) (λ b. bytes_eq m n ≡ b → filter (bytes_eq n) (cond (not b) (m ∷ filter (other n) ms) (filter (other n) ms)) ≡ [])
    (λ _ _. none_left n ms)
    (λ _ differs. let unlike : bytes_eq n m ≡ false = nat_list_eq_equiv.symm n m ∙ differs in ap (λ b. cond b (m ∷ filter (bytes_eq n) (filter (other n) ms)) (filter (bytes_eq n) (filter (other n) ms))) unlike ∙ none_left n ms) refl

no_more : (p q : List ℕ → Bool) (ns : List (List ℕ)) → length (filter p (filter q ns)) ≤ length (filter p ns)
no_more p q [] = omega arith
no_more p q (n ∷ ns) =
    let rest = no_more p q ns in
    by_cases (q n) (λ b. length (filter p (cond b (n ∷ filter q ns) (filter q ns))) ≤ length (filter p (n ∷ ns)))
    (λ _. by_cases (p n) (λ b. length (cond b (n ∷ filter p (filter q ns)) (filter p (filter q ns))) ≤ length (cond b (n ∷ filter p ns) (filter p ns))) (λ _. omega arith) (λ _. omega arith))
    (λ _. by_cases (p n) (λ b. length (filter p (filter q ns)) ≤ length (cond b (n ∷ filter p ns) (filter p ns))) (λ _. omega arith) (λ _. omega arith))

at_most_one : (names : List (List ℕ)) (n : List ℕ) → length (filter (bytes_eq n) (once names)) ≤ 1
at_most_one [] n = omega arith
at_most_one (m ∷ ms) n =
    let tail = filter (bytes_eq n) (filter (other m) (once ms)) in
    by_cases (bytes_eq n m) (λ b. bytes_eq n m ≡ b → length (cond b (m ∷ tail) tail) ≤ 1)
    (λ _ is. let none : tail ≡ [] = ap (λ k. filter (bytes_eq n) (filter (other k) (once ms))) (sym (bytes_same n m is)) ∙ none_left n (once ms) in rw none (omega arith))
    (λ _ _. omega (arith, no_more (bytes_eq n) (other m) (once ms), at_most_one ms n)) refl

pub each_once : (names : List (List ℕ)) (n : List ℕ) → count_by (bytes_eq n) (once names) ≤ 1
each_once names n = omega (arith, length-filter (bytes_eq n) (once names), at_most_one names n)
