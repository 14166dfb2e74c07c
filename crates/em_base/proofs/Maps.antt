-- A map whose keys have names is seen as a finite map from the names.
--     seen                the entries under the keys' names
--     hashed_found, hashed_len, hashed_put, hashed_taken      a `HashMap` from texts: what it finds, how many names it has,
--                         what `insert` and `remove` leave
--     get_put, get_kept, get_new, stays_there, insert_swap, taken_back      one change of a finite map, and two
--     AllBelow, entries_push, get_above, front_below      a name above all is put at the end
use Rattle.std.proofs.Common.{◌≡◌, ◌⊎◌, inl, inr, ◌++◌, ℕ, Bool, true, false, cond, ◌&&◌, List, [], ◌∷◌, map, Option, Some, None, refl, sym, ap, ◌∙◌, ◌+◌, nat_eq, length, Result, Ok, Err, arith}
use Rattle.std.specs.Prelude.{T, OnErr, IsSome, is_some}
use Rattle.std.specs.declared.cmp.Ordering.{Ordering}
use Rattle.std.specs.declared.cmp.Ordering.TheVariants.{Less, Equal, Greater}
use Rattle.std.specs.Ordering.{nat_cmp, is_eq, is_lt, eq_by_cmp, ordering_reverse}
use Rattle.std.specs.Cmp.Lexicographic.{slice_cmp, nat_list_cmp_total, nat_list_eq_equiv, pointwise, texts_ties}
use Rattle.std.specs.Cmp.{eq_by_cmp_equiv, tied_itself}
use Rattle.std.specs.List.{AllByRecursion, IsDistinct}
use Rattle.std.specs.Map.{lookup, keys_of, KeepsOthers}
use Rattle.std.specs.FinMap.{IsAntisymmetric, get, insert, remove, entries, from_entries, get-from_entries, get-entries, get-insert, get-remove, same_map, find, is_sorted, len, len-empty, len-insert, entries-insert, FinMap, slice_cmp-IsAntisymmetric, nat_cmp-IsAntisymmetric}
use Rattle.std.specs.FinMap.Entries.{below_all, put as at_place}
use Rattle.em_base.proofs.Lists.{by_cases}

is_equal : (r : Ordering) → is_eq r ≡ true → r ≡ Equal
is_equal Equal e = refl
is_equal Less e = absurd cc
is_equal Greater e = absurd cc

both : (a b : Bool) → T a → T b → T (a && b)
both true b p q = q
both false b p q = p

abbrev pub seen : {K L X : Type 0} → (K → L) → List (K × X) → List (L × X)
seen name = map (λ e. (name e.0, e.1))

-- ---- texts, in byte order

abbrev pub order : List ℕ → List ℕ → Ordering
order = slice_cmp nat_cmp

pub exact : IsAntisymmetric order
exact = slice_cmp-IsAntisymmetric nat_cmp-IsAntisymmetric

-- ---- texts found by a hash: the entries stand in any order, and no two have one name

abbrev pub is_named : {K : Type 0} → (K → List ℕ) → List ℕ → K → Bool
is_named name q x = pointwise nat_eq q (name x)

module _ {K X : Type 0} (name : K → List ℕ) where
  abbrev pub Unlike : List (K × X) → Type 0
  Unlike es = IsDistinct (λ a b. pointwise nat_eq (name a) (name b)) (keys_of es)

  lookup_is : (q : List ℕ) (es : List (K × X)) → lookup (is_named name q) es ≡ find order q (seen name es)
  lookup_is q [] = refl
  lookup_is q (e ∷ es) = ap (λ b. cond b (Some e.1) (lookup (is_named name q) es)) (texts_ties q (name e.0))
      ∙ ap (cond (eq_by_cmp order q (name e.0)) (Some e.1)) (lookup_is q es)

  pub hashed_found : (es : List (K × X)) (q : List ℕ) → lookup (is_named name q) es ≡ get (from_entries {R = order} (seen name es)) q
  hashed_found es q = lookup_is q es ∙ sym (get-from_entries nat_list_cmp_total (seen name es) q)

  no_other : (q : K) (es : List (K × X)) → AllByRecursion (λ y. pointwise nat_eq (name q) (name y) ≡ false) (keys_of es) → find order (name q) (seen name es) ≡ None
  no_other q [] h = refl
  no_other q (e ∷ es) h = ap (λ b. cond b (Some e.1) (find order (name q) (seen name es))) (sym (texts_ties (name q) (name e.0)) ∙ h.0) ∙ no_other q es h.1

  pub hashed_len : (es : List (K × X)) → Unlike es → len (from_entries {R = order} (seen name es)) ≡ length es
  unfolding IsDistinct
  hashed_len [] h = len-empty order X
  hashed_len (e ∷ es) h =
      let new : get (from_entries {R = order} (seen name es)) (name e.0) ≡ None = get-from_entries nat_list_cmp_total (seen name es) (name e.0) ∙ no_other e.0 es h.0 in
      len-insert nat_list_cmp_total (from_entries (seen name es)) (name e.0) e.1
      ∙ ap (λ o. cond (is_some o) (len (from_entries {R = order} (seen name es))) (len (from_entries {R = order} (seen name es)) + 1)) new
      ∙ ap (λ n. n + 1) (hashed_len es h.1) ∙ omega arith

  hashed_changed : (m n : List (K × X)) (k : List ℕ) (w : Option X) → lookup (is_named name k) n ≡ w → KeepsOthers (λ a b. pointwise nat_eq (name a) (name b)) (is_named name k) m n
      → (q : List ℕ) → get (from_entries {R = order} (seen name n)) q ≡ cond (eq_by_cmp order q k) w (get (from_entries {R = order} (seen name m)) q)
  unfolding KeepsOthers
  hashed_changed m n k w here others q =
      let apart : pointwise nat_eq k q ≡ false → (x : K) → is_named name k x ≡ true → is_named name q x ≡ false =
      λ isnt x is. nat_list_eq_equiv.symm q (name x) ∙ sym (nat_list_eq_equiv.congr k (name x) q is) ∙ isnt in
      let by_case : (b : Bool) → pointwise nat_eq k q ≡ b → get (from_entries {R = order} (seen name n)) q ≡ cond b w (get (from_entries {R = order} (seen name m)) q) = elim [
        | true ↦ λ is. ap (get (from_entries {R = order} (seen name n))) (sym (exact k q (is_equal _ (sym (texts_ties k q) ∙ is)))) ∙ sym (hashed_found n k) ∙ here
        | false ↦ λ isnt. sym (hashed_found n q) ∙ others (is_named name q) (λ x y is. nat_list_eq_equiv.congr q (name x) (name y) is) (apart isnt) ∙ hashed_found m q
      ] in by_case (pointwise nat_eq k q) refl ∙ ap (λ b. cond b w (get (from_entries {R = order} (seen name m)) q)) (nat_list_eq_equiv.symm k q ∙ texts_ties q k)

  pub hashed_put : (m n : List (K × X)) (k : List ℕ) (v : X) → lookup (is_named name k) n ≡ Some v → KeepsOthers (λ a b. pointwise nat_eq (name a) (name b)) (is_named name k) m n
      → from_entries {R = order} (seen name n) ≡ insert (from_entries (seen name m)) k v
  hashed_put m n k v here others = same_map nat_list_cmp_total exact _ _ (λ q. hashed_changed m n k (Some v) here others q ∙ sym (get-insert nat_list_cmp_total (from_entries (seen name m)) k v q))

  pub hashed_taken : (m n : List (K × X)) (k : List ℕ) → lookup (is_named name k) n ≡ None → KeepsOthers (λ a b. pointwise nat_eq (name a) (name b)) (is_named name k) m n
      → from_entries {R = order} (seen name n) ≡ remove (from_entries (seen name m)) k
  hashed_taken m n k here others = same_map nat_list_cmp_total exact _ _ (λ q. hashed_changed m n k None here others q ∙ sym (get-remove nat_list_cmp_total (from_entries (seen name m)) k q))

pub same_key : (p q : List ℕ) → eq_by_cmp order p q ≡ true → p ≡ q
same_key p q e = exact p q (is_equal (order p q) e)

pub own_key : (p : List ℕ) → eq_by_cmp order p p ≡ true
own_key p = ap is_eq (tied_itself nat_list_cmp_total p)

pub flip_keys : (p q : List ℕ) → eq_by_cmp order p q ≡ eq_by_cmp order q p
flip_keys p q = (eq_by_cmp_equiv nat_list_cmp_total).symm p q

-- ---- one change, and two

module _ {X : Type 0} (t : FinMap order X) (p : List ℕ) (x : X) where
  pub get_put : (q : List ℕ) → get (insert t p x) q ≡ cond (eq_by_cmp order q p) (Some x) (get t q)
  get_put q = get-insert nat_list_cmp_total t p x q

  -- what is there stays, where the new name isn't there
  pub get_kept : (q : List ℕ) → get t p ≡ None → IsSome (get t q) → get (insert t p x) q ≡ get t q
  get_kept q none some = by_cases (eq_by_cmp order q p) (λ b. eq_by_cmp order q p ≡ b → get (insert t p x) q ≡ get t q)
      (λ _ is. let same : q ≡ p = same_key q p is in let bad : false ≡ true = rw (same, none) at some in absurd cc)
      (λ _ isnt. get_put q ∙ ap (λ b. cond b (Some x) (get t q)) isnt) refl

  -- what is there after an insertion is the new name or was there
  pub get_new : (q : List ℕ) → IsSome (get (insert t p x) q) → (q ≡ p) ⊎ IsSome (get t q)
  get_new q some = by_cases (eq_by_cmp order q p) (λ b. eq_by_cmp order q p ≡ b → (q ≡ p) ⊎ IsSome (get t q))
      (λ _ is. inl (same_key q p is))
      (λ _ isnt. inr (ap is_some (sym (get_put q ∙ ap (λ b. cond b (Some x) (get t q)) isnt)) ∙ some)) refl

  -- what is there stays there where another name is put
  pub stays_there : (q : List ℕ) → (q ≡ p → ⊥) → is_some (get t q) ≡ true → is_some (get (insert t p x) q) ≡ true
  stays_there q other there = by_cases (eq_by_cmp order q p) (λ b. eq_by_cmp order q p ≡ b → is_some (get (insert t p x) q) ≡ true)
      (λ _ is. absurd (other (same_key q p is)))
      (λ _ isnt. ap is_some (get_put q ∙ ap (λ b. cond b (Some x) (get t q)) isnt) ∙ there) refl

  -- of two names it doesn't matter which is put first
  pub insert_swap : (q : List ℕ) (y : X) → (p ≡ q → ⊥) → insert (insert t q y) p x ≡ insert (insert t p x) q y
  insert_swap q y other = same_map nat_list_cmp_total exact _ _ (λ r.
      get-insert nat_list_cmp_total (insert t q y) p x r ∙ ap (cond (eq_by_cmp order r p) (Some x)) (get-insert nat_list_cmp_total t q y r)
      ∙ by_case r (eq_by_cmp order r p) (eq_by_cmp order r q) refl refl
      ∙ sym (get-insert nat_list_cmp_total (insert t p x) q y r ∙ ap (cond (eq_by_cmp order r q) (Some y)) (get_put r)))
    where
      by_case : (r : List ℕ) (a b : Bool) → eq_by_cmp order r p ≡ a → eq_by_cmp order r q ≡ b → cond a (Some x) (cond b (Some y) (get t r)) ≡ cond b (Some y) (cond a (Some x) (get t r))
      by_case r true true e f = absurd (other (sym (same_key r p e) ∙ same_key r q f))
      by_case r true false e f = refl
      by_case r false true e f = refl
      by_case r false false e f = refl

  -- a new name, taken out again
  pub taken_back : get t p ≡ None → remove (insert t p x) p ≡ t
  taken_back absent = same_map nat_list_cmp_total exact _ _ (λ q.
      get-remove nat_list_cmp_total (insert t p x) p q ∙ ap (cond (eq_by_cmp order q p) None) (get_put q)
      ∙ by_cases (eq_by_cmp order q p) (λ b. eq_by_cmp order q p ≡ b → cond b None (cond b (Some x) (get t q)) ≡ get t q)
      (λ _ is. sym (ap (get t) (same_key q p is) ∙ absent))
      (λ _ _. refl) refl)

-- ---- a name above all is put at the end

above : (j k : List ℕ) → order j k ≡ Less → order k j ≡ Greater
above j k h = nat_list_cmp_total.antisymm k j ∙ ap ordering_reverse h

module _ {X : Type 0} where
  -- each name is below k
  abbrev pub AllBelow : List ℕ → List (List ℕ × X) → Type 0
  AllBelow k [] = Unit {0}
  AllBelow k (e ∷ es) = (order e.0 k ≡ Less) × AllBelow k es

  pub below_further : (k j : List ℕ) (es : List (List ℕ × X)) → order k j ≡ Less → AllBelow k es → AllBelow j es
  below_further k j [] lt h = tt
  below_further k j (e ∷ es) lt h = (nat_list_cmp_total.trans e.0 k j h.0 lt, below_further k j es lt h.1)

  pub below_append : (k : List ℕ) (es fs : List (List ℕ × X)) → AllBelow k es → AllBelow k fs → AllBelow k (es ++ fs)
  below_append k [] fs h g = g
  below_append k (e ∷ es) fs h g = (h.0, below_append k es fs h.1 g)

  put_last : (k : List ℕ) (v : X) (es : List (List ℕ × X)) → AllBelow k es → at_place order k v es ≡ es ++ (k, v) ∷ []
  put_last k v [] h = refl
  put_last k v (e ∷ es) h = rw (above e.0 k h.0, put_last k v es h.1) refl

  find_above : (k : List ℕ) (es : List (List ℕ × X)) → AllBelow k es → find order k es ≡ None
  find_above k [] h = refl
  find_above k (e ∷ es) h = rw (above e.0 k h.0, find_above k es h.1) refl

  pub entries_push : (t : FinMap order X) (k : List ℕ) (v : X) → AllBelow k (entries t) → entries (insert t k v) ≡ entries t ++ (k, v) ∷ []
  entries_push t k v h = entries-insert nat_list_cmp_total t k v ∙ put_last k v (entries t) h

  pub get_above : (t : FinMap order X) (k : List ℕ) → AllBelow k (entries t) → get t k ≡ None
  get_above t k h = get-entries t k ∙ find_above k (entries t) h

  -- in a front of entries in order each name is below the next one
  pub front_below : (es : List (List ℕ × X)) (e : List ℕ × X) (fs : List (List ℕ × X)) → T (is_sorted order (es ++ e ∷ fs)) → AllBelow e.0 es
  front_below [] e fs h = tt
  front_below (x ∷ es) e fs h = (next_below x es e fs (first_T _ _ h), front_below es e fs (second_T _ _ h))
    where
      first_T : (a b : Bool) → T (a && b) → T a
      first_T true b h = tt
      first_T false b h = h

      second_T : (a b : Bool) → T (a && b) → T b
      second_T true b h = h
      second_T false b h = absurd h

      is_less : (r : Ordering) → T (is_lt r) → r ≡ Less
      is_less Less h = refl
      is_less Equal h = absurd h
      is_less Greater h = absurd h

      next_below : (x : List ℕ × X) (es : List (List ℕ × X)) (e : List ℕ × X) (fs : List (List ℕ × X)) → T (below_all order x.0 (es ++ e ∷ fs)) → order x.0 e.0 ≡ Less
      next_below x [] e fs h = is_less _ (first_T _ _ h)
      next_below x (y ∷ es) e fs h = next_below x es e fs (second_T _ _ h)

-- what holds after an error whatever it is
pub at_err : {T E : Type 0} (r : Result T E) {P : Type 0} → P → OnErr r P
at_err (Ok x) p = tt
at_err (Err e) p = p
