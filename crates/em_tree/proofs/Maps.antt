-- A `BTreeMap` seen as a finite map, in any order of its keys.
--     found       what a search finds is what the finite map has
--     entries_is      the finite map has the entries, in their order
--     put_is, taken_is      what `insert` and `remove` leave
use Rattle.std.proofs.Common.{◌≡◌, ℕ, Bool, true, false, cond, ◌&&◌, List, [], ◌∷◌, Option, Some, None, refl, sym, ap, subst, ◌∙◌, length, slice_get, option_map, ◌<◌, ◌≢◌, ◌++◌, arith, Result, Ok, Err}
use Rattle.std.specs.Prelude.{T, ◌↔◌, IsSome, IfSome, MatchOption, OnErr, OnOk}
use Rattle.std.specs.declared.cmp.Ordering.{Ordering}
use Rattle.std.specs.declared.cmp.Ordering.TheVariants.{Less}
use Rattle.std.specs.Cmp.Lexicographic.{slice_cmp, nat_list_cmp_total}
use Rattle.std.specs.Ordering.{nat_cmp, is_eq, is_lt, eq_by_cmp}
use Rattle.std.specs.Cmp.{IsTotalOrder, eq_by_cmp_equiv}
use Rattle.std.specs.List.{AllByRecursion}
use Rattle.std.specs.List.Sorted.{IsStrictlySortedBy}
use Rattle.std.specs.Map.{lookup, keys_of}
use Rattle.std.specs.BTreeMap.{BTreeMap, is_at, IsOrdered, Updates}
use Rattle.std.specs.FinMap.{IsAntisymmetric, get, insert, remove, entries, entries_sorted, from_entries, get-from_entries, get-entries, get-insert, get-remove, same_map, find, is_sorted, len, len-entries, slice_cmp-IsAntisymmetric, nat_cmp-IsAntisymmetric}
use Rattle.std.specs.FinMap.Entries.{below_all, same_entries}
use Rattle.std.proofs.lemmas.Map.Keys.{sorted_head, sorted_tail}

lookup_is : {K X : Type 0} (R : K → K → Ordering) (q : K) (es : List (K × X)) → lookup (is_at (R q)) es ≡ find R q es
lookup_is R q [] = refl
lookup_is R q (e ∷ es) = ap (cond (is_eq (R q e.0)) (Some e.1)) (lookup_is R q es)

both : (a b : Bool) → T a → T b → T (a && b)
both true b p q = q
both false b p q = p

module _ {K X : Type 0} {R : K → K → Ordering} (o : IsTotalOrder R) where
  pub found : (es : List (K × X)) (q : K) → lookup (is_at (R q)) es ≡ get (from_entries {R = R} es) q
  found es q = lookup_is R q es ∙ sym (get-from_entries o es q)

  module _ (same : IsAntisymmetric R) where
    below_T : (x : K) (es : List (K × X)) → AllByRecursion (λ y. R x y ≡ Less) (keys_of es) → T (below_all R x es)
    below_T x [] h = tt
    below_T x (e ∷ es) h = both (is_lt (R x e.0)) (below_all R x es) (subst (λ r. T (is_lt r)) (sym h.0) tt) (below_T x es h.1)

    sorted_T : (es : List (K × X)) → IsStrictlySortedBy R (keys_of es) → T (is_sorted R es)
    sorted_T [] h = tt
    sorted_T (e ∷ es) h = both (below_all R e.0 es) (is_sorted R es) (below_T e.0 es (sorted_head R e.0 (keys_of es) h)) (sorted_T es (sorted_tail R e.0 (keys_of es) h))

    pub entries_is : (es : List (K × X)) → IsStrictlySortedBy R (keys_of es) → entries (from_entries {R = R} es) ≡ es
    entries_is es h = same_entries R o same (entries (from_entries {R = R} es)) es (entries_sorted (from_entries {R = R} es)) (sorted_T es h) (λ q. sym (get-entries (from_entries {R = R} es) q) ∙ get-from_entries o es q)

    pub put_is : (m n : BTreeMap K X) (k : K) (v : X) → Updates R m n k (Some v) → from_entries {R = R} n.entries ≡ insert (from_entries {R = R} m.entries) k v
    put_is m n k v u = same_map o same (from_entries n.entries) (insert (from_entries m.entries) k v) (λ q.
        sym (found n.entries q) ∙ u.0 q ∙ ap (cond (eq_by_cmp R k q) (Some v)) (found m.entries q) ∙ ap (λ b. cond b (Some v) (get (from_entries {R = R} m.entries) q)) ((eq_by_cmp_equiv o).symm k q)
        ∙ sym (get-insert o (from_entries m.entries) k v q))

    pub taken_is : (m n : BTreeMap K X) (k : K) → Updates R m n k None → from_entries {R = R} n.entries ≡ remove (from_entries {R = R} m.entries) k
    taken_is m n k u = same_map o same (from_entries n.entries) (remove (from_entries m.entries) k) (λ q.
        sym (found n.entries q) ∙ u.0 q ∙ ap (cond (eq_by_cmp R k q) None) (found m.entries q) ∙ ap (λ b. cond b None (get (from_entries {R = R} m.entries) q)) ((eq_by_cmp_equiv o).symm k q)
        ∙ sym (get-remove o (from_entries m.entries) k q))

-- ---- at paths, which are in byte order of their texts

abbrev pub order : List ℕ → List ℕ → Ordering
order = slice_cmp nat_cmp

pub exact : IsAntisymmetric order
exact = slice_cmp-IsAntisymmetric nat_cmp-IsAntisymmetric

module _ {X : Type 0} where
  pub path_found : (es : List (List ℕ × X)) (q : List ℕ) → lookup (is_at (order q)) es ≡ get (from_entries {R = order} es) q
  path_found = found nat_list_cmp_total

  pub path_entries : (es : List (List ℕ × X)) → IsStrictlySortedBy order (keys_of es) → entries (from_entries {R = order} es) ≡ es
  path_entries = entries_is nat_list_cmp_total exact

  pub path_len : (es : List (List ℕ × X)) → IsStrictlySortedBy order (keys_of es) → len (from_entries {R = order} es) ≡ length es
  path_len es h = len-entries (from_entries {R = order} es) ∙ ap length (path_entries es h)

  pub path_put : (m n : BTreeMap (List ℕ) X) (k : List ℕ) (v : X) → Updates order m n k (Some v) → from_entries {R = order} n.entries ≡ insert (from_entries {R = order} m.entries) k v
  path_put = put_is nat_list_cmp_total exact

  pub path_taken : (m n : BTreeMap (List ℕ) X) (k : List ℕ) → Updates order m n k None → from_entries {R = order} n.entries ≡ remove (from_entries {R = order} m.entries) k
  path_taken = taken_is nat_list_cmp_total exact

  pub at_is : {Y : Type 0} (f : Y → List ℕ × X) (r : Option Y) (es : List (List ℕ × X)) (i : ℕ) → option_map f r ≡ slice_get es i → IsStrictlySortedBy order (keys_of es) → option_map f r ≡ slice_get (entries (from_entries {R = order} es)) i
  at_is f r es i e h = e ∙ ap (λ (l : List (List ℕ × X)). slice_get l i) (sym (path_entries es h))

  popped_nothing : (es : List (List ℕ × X)) → length es ≡ 0 → es ≡ []
  popped_nothing [] e = refl
  popped_nothing (x ∷ es) e = absurd (omega arith)

  pub popped_none : (es : List (List ℕ × X)) → length es ≡ 0 → IsStrictlySortedBy order (keys_of es) → entries (from_entries {R = order} es) ≡ []
  popped_none es e h = path_entries es h ∙ popped_nothing es e

  pub popped : (m n : BTreeMap (List ℕ) X) (r : Option (List ℕ × X)) → IsSome r ↔ (0 < length m.entries) → IfSome r (λ p. m.entries ≡ n.entries ++ p ∷ []) → IsOrdered order m → IsOrdered order n → length m.entries ≢ 0
      → MatchOption r (entries (from_entries {R = order} m.entries) ≡ []) (λ p. entries (from_entries {R = order} m.entries) ≡ entries (from_entries {R = order} n.entries) ++ p ∷ [])
  popped m n None v h a b z = let none = v.1 (omega arith) in cc
  popped m n (Some p) v h a b z = path_entries m.entries a ∙ h ∙ ap (λ (es : List (List ℕ × X)). es ++ p ∷ []) (sym (path_entries n.entries b))

-- what holds after an error whatever it is
pub at_err : {T E : Type 0} (r : Result T E) {P : Type 0} → P → OnErr r P
at_err (Ok x) p = tt
at_err (Err e) p = p

pub ok_then : {T E : Type 0} (r : Result T E) {P Q : Type 0} → OnOk r P → (P → Q) → OnOk r Q
ok_then (Ok x) p f = f p
ok_then (Err e) p f = tt
