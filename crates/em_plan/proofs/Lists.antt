-- Lists by their places.
--     each_place, all_by_recursion, at_place      what holds at each place holds of each item, and the other way round
--     first_of, left_of, nothing_of      what stands at a place is the first of what is left from there on
use Rattle.std.proofs.Common.{◌≡◌, ℕ, zero, suc, ◌+◌, ◌<◌, List, [], ◌∷◌, ◌++◌, length, drop, Option, Some, None, refl, sym, subst, ◌∙◌, arith, slice_get}
use Rattle.std.specs.List.{All, AllByRecursion}

pub each_place : {X : Type 0} (P : X → Type 0) (xs : List X) → ((i : ℕ) (x : X) → slice_get xs i ≡ Some x → P x) → All P xs
each_place P [] h k d l = absurd (omega arith)
each_place P (x ∷ xs) h zero d l = h 0 x refl
each_place P (x ∷ xs) h (suc k) d l = each_place P xs (λ i y at. h (suc i) y at) k d (omega arith)

pub all_by_recursion : {X : Type 0} (P : X → Type 0) (xs : List X) → All P xs → AllByRecursion P xs
all_by_recursion P [] h = tt
all_by_recursion P (x ∷ xs) h = (h 0 x (omega arith), all_by_recursion P xs (λ k d l. h (suc k) d (omega arith)))

pub place_of : {X : Type 0} (P : X → Type 0) (xs : List X) (i : ℕ) (x : X) → AllByRecursion P xs → slice_get xs i ≡ Some x → P x
place_of P [] zero x h e = absurd (let b : None ≡ Some x = e in cc)
place_of P [] (suc i) x h e = absurd (let b : None ≡ Some x = e in cc)
place_of P (y ∷ xs) zero x h e = subst P (let s : y ≡ x = cc in s) h.0
place_of P (y ∷ xs) (suc i) x h e = place_of P xs i x h.1 e

pub at_place : {X : Type 0} (P : X → Type 0) (xs : List X) (i : ℕ) (x : X) → All P xs → slice_get xs i ≡ Some x → P x
at_place P xs i x h e = place_of P xs i x (all_by_recursion P xs h) e

pub all_append : {X : Type 0} (P : X → Type 0) (xs ys : List X) → AllByRecursion P xs → AllByRecursion P ys → AllByRecursion P (xs ++ ys)
all_append P [] ys a b = b
all_append P (x ∷ xs) ys a b = (a.0, all_append P xs ys a.1 b)

pub each_other : {X : Type 0} (P Q : X → Type 0) → ((x : X) → P x → Q x) → (xs : List X) → AllByRecursion P xs → AllByRecursion Q xs
each_other P Q f [] h = tt
each_other P Q f (x ∷ xs) h = (f x h.0, each_other P Q f xs h.1)

pub first_of : {X : Type 0} (xs : List X) (i : ℕ) (x : X) (rest : List X) → drop i xs ≡ x ∷ rest → (slice_get xs i ≡ Some x) × (drop (i + 1) xs ≡ rest)
first_of [] zero x rest e = absurd cc
first_of [] (suc i) x rest e = absurd cc
first_of (y ∷ xs) zero x rest e = ((let a : y ≡ x = cc in rw a refl), (let b : xs ≡ rest = cc in b))
first_of (y ∷ xs) (suc i) x rest e =
    let r = first_of xs i x rest e in
    let k : suc i + 1 ≡ suc (i + 1) = omega arith in
    (r.0, rw k r.1)

pub left_of : {X : Type 0} (xs : List X) (i : ℕ) (x : X) → slice_get xs i ≡ Some x → drop i xs ≡ x ∷ drop (i + 1) xs
left_of [] zero x e = absurd (let b : None ≡ Some x = e in cc)
left_of [] (suc i) x e = absurd (let b : None ≡ Some x = e in cc)
left_of (y ∷ xs) zero x e = let a : y ≡ x = cc in rw a refl
left_of (y ∷ xs) (suc i) x e =
    let k : suc i + 1 ≡ suc (i + 1) = omega arith in
    rw k (left_of xs i x e)

pub nothing_of : {X : Type 0} (xs : List X) (i : ℕ) → slice_get xs i ≡ None → drop i xs ≡ []
nothing_of [] zero e = refl
nothing_of [] (suc i) e = refl
nothing_of (x ∷ xs) zero e = absurd (let b : Some x ≡ None = e in cc)
nothing_of (x ∷ xs) (suc i) e = nothing_of xs i e

pub nothing_at : {X : Type 0} (xs : List X) (i : ℕ) → drop i xs ≡ [] → slice_get xs i ≡ None
nothing_at [] zero e = refl
nothing_at [] (suc i) e = refl
nothing_at (x ∷ xs) zero e = absurd cc
nothing_at (x ∷ xs) (suc i) e = nothing_at xs i e
