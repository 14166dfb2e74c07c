-- Entries in the order of their keys: an entry above all is put at the end.
use Rattle.std.proofs.Common.{◌≡◌, ℕ, Bool, true, false, cond, ◌&&◌, ◌⊎◌, inl, inr, List, [], ◌∷◌, ◌++◌, Some, None, refl, sym, ap, subst, ◌∙◌}
use Rattle.std.specs.Prelude.{T, IsSome, is_some}
use Rattle.std.specs.declared.cmp.Ordering.{Ordering}
use Rattle.std.specs.declared.cmp.Ordering.TheVariants.{Less, Equal, Greater}
use Rattle.std.specs.Ordering.{nat_cmp, is_lt, is_eq, eq_by_cmp, ordering_reverse}
use Rattle.std.specs.Cmp.{IsTotalOrder, tied_itself, nat_cmp_total}
use Rattle.std.specs.Cmp.Lexicographic.{slice_cmp, nat_list_cmp_total}
use Rattle.std.specs.FinMap.{FinMap, entries, get, insert, find, put, is_sorted, entries-insert, get-entries, get-insert, IsAntisymmetric, slice_cmp-IsAntisymmetric, nat_cmp-IsAntisymmetric}
use Rattle.std.specs.FinMap.Entries.{below_all}

abbrev pub Key : Type 0
Key = List ℕ

abbrev pub cmp : Key → Key → Ordering
cmp = slice_cmp nat_cmp

abbrev pub total : IsTotalOrder cmp
total = nat_list_cmp_total

pub only_equal : IsAntisymmetric cmp
only_equal = slice_cmp-IsAntisymmetric nat_cmp-IsAntisymmetric

pub less_is : (r : Ordering) → is_lt r ≡ true → r ≡ Less
less_is Less e = refl
less_is Equal e = absurd cc
less_is Greater e = absurd cc

pub equal_is : (r : Ordering) → is_eq r ≡ true → r ≡ Equal
equal_is Less e = absurd cc
equal_is Equal e = refl
equal_is Greater e = absurd cc

pub T_of : (b : Bool) → b ≡ true → T b
T_of true e = tt
T_of false e = absurd cc

pub T_both : (a b : Bool) → T (a && b) → (a ≡ true) × T b
T_both true b h = (refl, h)
T_both false b h = absurd h

pub T_and : (a b : Bool) → a ≡ true → T b → T (a && b)
T_and true b e h = h
T_and false b e h = absurd cc

above : (j k : Key) → cmp j k ≡ Less → cmp k j ≡ Greater
above j k h = total.antisymm k j ∙ ap ordering_reverse h

module _ {X : Type 0} where
  -- each key is below k
  abbrev pub AllBelow : Key → List (Key × X) → Type 0
  AllBelow k [] = Unit {0}
  AllBelow k (e ∷ es) = (cmp e.0 k ≡ Less) × AllBelow k es

  pub below_further : (k j : Key) (es : List (Key × X)) → cmp k j ≡ Less → AllBelow k es → AllBelow j es
  below_further k j [] lt h = tt
  below_further k j (e ∷ es) lt h = (total.trans e.0 k j h.0 lt, below_further k j es lt h.1)

  pub below_append : (k : Key) (es fs : List (Key × X)) → AllBelow k es → AllBelow k fs → AllBelow k (es ++ fs)
  below_append k [] fs h g = g
  below_append k (e ∷ es) fs h g = (h.0, below_append k es fs h.1 g)

  pub put_last : (k : Key) (v : X) (es : List (Key × X)) → AllBelow k es → put cmp k v es ≡ es ++ (k, v) ∷ []
  put_last k v [] h = refl
  put_last k v (e ∷ es) h = rw (above e.0 k h.0, put_last k v es h.1) refl

  pub find_above : (k : Key) (es : List (Key × X)) → AllBelow k es → find cmp k es ≡ None
  find_above k [] h = refl
  find_above k (e ∷ es) h = rw (above e.0 k h.0, find_above k es h.1) refl

  -- no key is at most q where each is above it
  pub find_below : (q : Key) (es : List (Key × X)) → T (below_all cmp q es) → find cmp q es ≡ None
  find_below q [] h = refl
  find_below q (e ∷ es) h = let p = T_both (is_lt (cmp q e.0)) (below_all cmp q es) h in rw (less_is _ p.0, find_below q es p.1) refl

  pub lower : (j k : Key) (es : List (Key × X)) → cmp j k ≡ Less → T (below_all cmp k es) → T (below_all cmp j es)
  lower j k [] lt h = tt
  lower j k (e ∷ es) lt h =
      let p = T_both (is_lt (cmp k e.0)) (below_all cmp k es) h in
      T_and _ _ (ap is_lt (total.trans j k e.0 lt (less_is _ p.0))) (lower j k es lt p.1)

  pub find_front : (q : Key) (es fs : List (Key × X)) → find cmp q fs ≡ None → find cmp q (es ++ fs) ≡ find cmp q es
  find_front q [] fs h = h
  find_front q (e ∷ es) fs h = ap (cond (eq_by_cmp cmp q e.0) (Some e.1)) (find_front q es fs h)

  pub sorted_rest : (es fs : List (Key × X)) → T (is_sorted cmp (es ++ fs)) → T (is_sorted cmp fs)
  sorted_rest [] fs h = h
  sorted_rest (e ∷ es) fs h = sorted_rest es fs ((T_both (below_all cmp e.0 (es ++ fs)) (is_sorted cmp (es ++ fs)) h).1)

  pub found_itself : (es fs : List (Key × X)) (e : Key × X) → is_some (find cmp e.0 (es ++ e ∷ fs)) ≡ true
  found_itself [] fs e = rw (tied_itself total e.0) refl
  found_itself (x ∷ es) fs e =
      elim (eq_by_cmp cmp e.0 x.0) as (λ b. is_some (cond b (Some x.1) (find cmp e.0 (es ++ e ∷ fs))) ≡ true) [ true ↦ refl | false ↦ found_itself es fs e ]

  below_at : (k : Key) (es fs : List (Key × X)) (e : Key × X) → T (below_all cmp k (es ++ e ∷ fs)) → cmp k e.0 ≡ Less
  below_at k [] fs e h = less_is _ (T_both (is_lt (cmp k e.0)) (below_all cmp k fs) h).0
  below_at k (x ∷ es) fs e h = below_at k es fs e (T_both (is_lt (cmp k x.0)) (below_all cmp k (es ++ e ∷ fs)) h).1

  -- of sorted entries each is found by its key
  pub find_sorted : (es fs : List (Key × X)) (e : Key × X) → T (is_sorted cmp (es ++ e ∷ fs)) → find cmp e.0 (es ++ e ∷ fs) ≡ Some e.1
  find_sorted [] fs e h = rw (tied_itself total e.0) refl
  find_sorted (x ∷ es) fs e h =
      let p = T_both (below_all cmp x.0 (es ++ e ∷ fs)) (is_sorted cmp (es ++ e ∷ fs)) h in
      rw (above x.0 e.0 (below_at x.0 es fs e (T_of _ p.0)), find_sorted es fs e p.1) refl

  -- ---- maps

  -- a key above last is above all keys of the map
  abbrev pub IsLast : Key → FinMap cmp X → Type 0
  IsLast last m = (k : Key) → cmp last k ≡ Less → AllBelow k (entries m)

  pub entries_push : (m : FinMap cmp X) (k : Key) (v : X) → AllBelow k (entries m) → entries (insert m k v) ≡ entries m ++ (k, v) ∷ []
  entries_push m k v h = entries-insert total m k v ∙ put_last k v (entries m) h

  pub last_push : (m : FinMap cmp X) (k : Key) (v : X) → AllBelow k (entries m) → IsLast k (insert m k v)
  last_push m k v h = λ j lt. subst (AllBelow j) (sym (entries_push m k v h)) (below_append j (entries m) ((k, v) ∷ []) (below_further k j (entries m) lt h) (lt, tt))

  pub get_above : (m : FinMap cmp X) (k : Key) → AllBelow k (entries m) → get m k ≡ None
  get_above m k h = get-entries m k ∙ find_above k (entries m) h

  -- what is there stays, where the new key isn't
  pub get_kept : (m : FinMap cmp X) (k q : Key) (v : X) → get m k ≡ None → IsSome (get m q) → get (insert m k v) q ≡ get m q
  get_kept m k q v none some =
      elim (eq_by_cmp cmp q k) as (λ b. eq_by_cmp cmp q k ≡ b → get (insert m k v) q ≡ get m q) [
        | true ↦ λ t. let same : q ≡ k = only_equal q k (equal_is _ t) in let bad : false ≡ true = rw (same, none) at some in absurd cc
        | false ↦ λ f. get-insert total m k v q ∙ ap (λ b. cond b (Some v) (get m q)) f
      ] refl

  -- what is there after an insertion is the new value or was there
  pub get_new : (m : FinMap cmp X) (k q : Key) (v : X) → IsSome (get (insert m k v) q) → (q ≡ k) ⊎ IsSome (get m q)
  get_new m k q v some =
      elim (eq_by_cmp cmp q k) as (λ b. eq_by_cmp cmp q k ≡ b → (q ≡ k) ⊎ IsSome (get m q)) [
        | true ↦ λ t. inl (only_equal q k (equal_is _ t))
        | false ↦ λ f. inr (ap is_some (sym (get-insert total m k v q ∙ ap (λ b. cond b (Some v) (get m q)) f)) ∙ some)
      ] refl

-- a text is below each longer one that it begins
pub prefix_less : (q : Key) (x : ℕ) (xs : Key) → cmp q (q ++ x ∷ xs) ≡ Less
prefix_less [] x xs = refl
prefix_less (y ∷ q) x xs = rw (tied_itself nat_cmp_total y, prefix_less q x xs) refl
