-- What one change does to an index.
use Rattle.std.proofs.Common.{◌≡◌, ℕ, Bool, true, false, cond, not, ◌&&◌, ◌||◌, List, [], Option, Some, None, refl, sym, ap, subst, ◌∙◌}
use Rattle.std.specs.Prelude.{IsSome, is_some}
use Rattle.std.specs.Ordering.{eq_by_cmp, is_eq}
use Rattle.std.specs.Cmp.{eq_by_cmp_equiv}
use Rattle.std.specs.Cmp.Lexicographic.{nat_list_cmp_total, texts_ties}
use Rattle.std.specs.FinMap.{FinMap, contains_key, get, insert, remove, empty, get-insert, get-remove, get-empty}
use Rattle.std.specs.Map.{lookup}
use Rattle.std.specs.BTreeMap.{is_at}
use Rattle.em_path.specs.Paths.{parent_text}
use Rattle.std.specs.BTreeMap as tree
use Rattle.std.specs.BTreeSet as set
use Rattle.em_tree.specs.Index.{Children, is_in, has_child, is_text, is_parent, IsIndex}
use Rattle.em_tree.proofs.Maps.{order}
use Rattle.em_tree.proofs.Tables.{same_key}

flip : (p q : List ℕ) → eq_by_cmp order p q ≡ eq_by_cmp order q p
flip p q = (eq_by_cmp_equiv nat_list_cmp_total).symm p q

same_child : (m : Children) (p parent k : List ℕ) → eq_by_cmp order p parent ≡ true → is_in (tree.get order m parent) k ≡ has_child m p k
same_child m p parent k e = ap (λ (q : List ℕ). has_child m q k) (sym (same_key p parent e))

-- n has the set s at the parent, and else what m has
module _ (m n : Children) (parent : List ℕ) (s : set.BTreeSet (List ℕ)) (u : (q : List ℕ) → tree.get order n q ≡ cond (is_eq (order parent q)) (Some s) (tree.get order m q)) where
  at_parent : (p k : List ℕ) (f : Bool) → set.contains order s k ≡ f → has_child n p k ≡ cond (eq_by_cmp order p parent) f (has_child m p k)
  at_parent p k f e = ap (λ (o : Option (set.BTreeSet (List ℕ))). is_in o k) (u p) ∙ ap (λ b. is_in (cond b (Some s) (tree.get order m p)) k) (flip parent p) ∙ by_case (eq_by_cmp order p parent)
    where
      by_case : (b : Bool) → is_in (cond b (Some s) (tree.get order m p)) k ≡ cond b f (has_child m p k)
      by_case true = e
      by_case false = refl

  pub kept : ((k : List ℕ) → set.contains order s k ≡ is_in (tree.get order m parent) k) → (p k : List ℕ) → has_child n p k ≡ has_child m p k
  kept e p k = at_parent p k (is_in (tree.get order m parent) k) (e k) ∙ by_case (eq_by_cmp order p parent) refl
    where
      by_case : (b : Bool) → eq_by_cmp order p parent ≡ b → cond b (is_in (tree.get order m parent) k) (has_child m p k) ≡ has_child m p k
      by_case true h = same_child m p parent k h
      by_case false h = refl

  module _ (child : List ℕ) where
    or_at : (a h : Bool) → cond a true h ≡ (h || a)
    or_at true true = refl
    or_at true false = refl
    or_at false true = refl
    or_at false false = refl

    or_none : (h : Bool) → h ≡ (h || false)
    or_none true = refl
    or_none false = refl

    pub added : ((k : List ℕ) → set.contains order s k ≡ cond (is_eq (order child k)) true (is_in (tree.get order m parent) k))
        → (p k : List ℕ) → has_child n p k ≡ (has_child m p k || (eq_by_cmp order p parent && eq_by_cmp order k child))
    added e p k = at_parent p k (cond (eq_by_cmp order k child) true (is_in (tree.get order m parent) k)) (e k ∙ ap (λ b. cond b true (is_in (tree.get order m parent) k)) (flip child k)) ∙ by_case (eq_by_cmp order p parent) refl
      where
        by_case : (b : Bool) → eq_by_cmp order p parent ≡ b → cond b (cond (eq_by_cmp order k child) true (is_in (tree.get order m parent) k)) (has_child m p k) ≡ (has_child m p k || (b && eq_by_cmp order k child))
        by_case true h = ap (cond (eq_by_cmp order k child) true) (same_child m p parent k h) ∙ or_at (eq_by_cmp order k child) (has_child m p k)
        by_case false h = or_none (has_child m p k)

    and_at : (a h : Bool) → cond a false h ≡ (h && not a)
    and_at true true = refl
    and_at true false = refl
    and_at false true = refl
    and_at false false = refl

    and_all : (h : Bool) → h ≡ (h && true)
    and_all true = refl
    and_all false = refl

    pub taken : ((k : List ℕ) → set.contains order s k ≡ cond (is_eq (order child k)) false (is_in (tree.get order m parent) k))
        → (p k : List ℕ) → has_child n p k ≡ (has_child m p k && not (eq_by_cmp order p parent && eq_by_cmp order k child))
    taken e p k = at_parent p k (cond (eq_by_cmp order k child) false (is_in (tree.get order m parent) k)) (e k ∙ ap (λ b. cond b false (is_in (tree.get order m parent) k)) (flip child k)) ∙ by_case (eq_by_cmp order p parent) refl
      where
        by_case : (b : Bool) → eq_by_cmp order p parent ≡ b → cond b (cond (eq_by_cmp order k child) false (is_in (tree.get order m parent) k)) (has_child m p k) ≡ (has_child m p k && not (b && eq_by_cmp order k child))
        by_case true h = ap (cond (eq_by_cmp order k child) false) (same_child m p parent k h) ∙ and_at (eq_by_cmp order k child) (has_child m p k)
        by_case false h = and_all (has_child m p k)

-- no set stands at the parent
pub nothing_taken : (m : Children) (parent child p k : List ℕ) → None ≡ tree.get order m parent → has_child m p k ≡ (has_child m p k && not (eq_by_cmp order p parent && eq_by_cmp order k child))
nothing_taken m parent child p k none = by_case (eq_by_cmp order p parent) refl
  where
    absent : (b : Bool) → has_child m p k ≡ false → has_child m p k ≡ (has_child m p k && b)
    absent b e = e ∙ ap (λ h. h && b) (sym e)

    all : (h : Bool) → h ≡ (h && true)
    all true = refl
    all false = refl

    by_case : (b : Bool) → eq_by_cmp order p parent ≡ b → has_child m p k ≡ (has_child m p k && not (b && eq_by_cmp order k child))
    by_case true h = absent (not (eq_by_cmp order k child)) (sym (same_child m p parent k h) ∙ ap (λ (o : Option (set.BTreeSet (List ℕ))). is_in o k) (sym none))
    by_case false h = all (has_child m p k)

pub some_is : {X : Type 0} {x : X} {o : Option X} → Some x ≡ o → IsSome o
some_is e = ap is_some (sym e)

-- ---- the index of a changed table

pub parent_is : (p parent q : List ℕ) → parent_text p ≡ Some parent → is_parent q p ≡ eq_by_cmp order q parent
parent_is p parent q e = ap (λ (o : Option (List ℕ)). is_text o q) e ∙ texts_ties parent q ∙ flip parent q

pub no_parent : (p q : List ℕ) → parent_text p ≡ None → is_parent q p ≡ false
no_parent p q e = ap (λ (o : Option (List ℕ)). is_text o q) e

put_key : {X : Type 0} (t : FinMap order X) (p k : List ℕ) (n : X) → contains_key (insert t p n) k ≡ is_some (cond (eq_by_cmp order k p) (Some n) (get t k))
put_key t p k n = ap is_some (get-insert nat_list_cmp_total t p n k)

gone_key : {X : Type 0} (t : FinMap order X) (p k : List ℕ) → contains_key (remove t p) k ≡ is_some (cond (eq_by_cmp order k p) None (get t k))
gone_key t p k = ap is_some (get-remove nat_list_cmp_total t p k)

pub IsIndex-same : {X : Type 0} (m n : Children) (t : FinMap order X) → IsIndex m t → ((p k : List ℕ) → has_child n p k ≡ has_child m p k) → IsIndex n t
IsIndex-same m n t h e = record { exact = λ p k. e p k ∙ h.exact p k }

both_or : (b x : Bool) → ((b && x) || (b && true)) ≡ (b && true)
both_or true true = refl
both_or true false = refl
both_or false x = refl

none_or : (b e : Bool) → (b || (e && false)) ≡ b
none_or true e = refl
none_or false true = refl
none_or false false = refl

-- a new path, which is listed
pub IsIndex-new : {X : Type 0} (m n : Children) (t : FinMap order X) (p : List ℕ) (x : X) → IsIndex m t
    → ((q k : List ℕ) → has_child n q k ≡ (has_child m q k || (is_parent q p && eq_by_cmp order k p))) → IsIndex n (insert t p x)
IsIndex-new m n t p x h e = record { exact = λ q k. e q k ∙ ap (λ b. b || (is_parent q p && eq_by_cmp order k p)) (h.exact q k) ∙ by_case q k (eq_by_cmp order k p) refl ∙ ap (λ b. is_parent q k && b) (sym (put_key t p k x)) }
  where
    by_case : (q k : List ℕ) (c : Bool) → eq_by_cmp order k p ≡ c → ((is_parent q k && contains_key t k) || (is_parent q p && c)) ≡ (is_parent q k && is_some (cond c (Some x) (get t k)))
    by_case q k true c = subst (λ b. ((is_parent q k && contains_key t k) || (b && true)) ≡ (is_parent q k && true)) (ap (is_parent q) (same_key k p c)) (both_or (is_parent q k) (contains_key t k))
    by_case q k false c = none_or (is_parent q k && contains_key t k) (is_parent q p)

-- a path that was there
pub IsIndex-put : {X : Type 0} (m : Children) (t : FinMap order X) (p : List ℕ) (x : X) → IsIndex m t → contains_key t p ≡ true → IsIndex m (insert t p x)
IsIndex-put m t p x h there = record { exact = λ q k. h.exact q k ∙ by_case q k (eq_by_cmp order k p) refl ∙ ap (λ b. is_parent q k && b) (sym (put_key t p k x)) }
  where
    by_case : (q k : List ℕ) (c : Bool) → eq_by_cmp order k p ≡ c → (is_parent q k && contains_key t k) ≡ (is_parent q k && is_some (cond c (Some x) (get t k)))
    by_case q k true c = ap (λ b. is_parent q k && b) (ap (contains_key t) (same_key k p c) ∙ there)
    by_case q k false c = refl

undone : (h e : Bool) → (h ≡ false) → ((h || (e && true)) && not (e && true)) ≡ h
undone true e n = cc
undone false true n = refl
undone false false n = refl

untouched : (h e : Bool) → ((h || (e && false)) && not (e && false)) ≡ h
untouched true true = refl
untouched true false = refl
untouched false true = refl
untouched false false = refl

and_false : (b : Bool) → (b && false) ≡ false
and_false true = refl
and_false false = refl

-- what was listed for an absent path, taken out again
pub IsIndex-back : {X : Type 0} (m n o : Children) (t : FinMap order X) (p : List ℕ) → IsIndex m t → get t p ≡ None
    → ((q k : List ℕ) → has_child n q k ≡ (has_child m q k || (is_parent q p && eq_by_cmp order k p)))
    → ((q k : List ℕ) → has_child o q k ≡ (has_child n q k && not (is_parent q p && eq_by_cmp order k p))) → IsIndex o t
IsIndex-back m n o t p h absent e f = IsIndex-same m o t h (λ q k. f q k ∙ ap (λ b. b && not (is_parent q p && eq_by_cmp order k p)) (e q k) ∙ by_case q k (eq_by_cmp order k p) refl)
  where
    by_case : (q k : List ℕ) (c : Bool) → eq_by_cmp order k p ≡ c → ((has_child m q k || (is_parent q p && c)) && not (is_parent q p && c)) ≡ has_child m q k
    by_case q k true c = undone (has_child m q k) (is_parent q p) (h.exact q k ∙ ap (λ b. is_parent q k && b) (ap (contains_key t) (same_key k p c) ∙ ap is_some absent) ∙ and_false (is_parent q k))
    by_case q k false c = untouched (has_child m q k) (is_parent q p)

gone : (b x : Bool) → ((b && x) && not (b && true)) ≡ (b && false)
gone true true = refl
gone true false = refl
gone false x = refl

stays : (h e : Bool) → (h && not (e && false)) ≡ h
stays true true = refl
stays true false = refl
stays false e = refl

-- a path that goes, and from its list
pub IsIndex-gone : {X : Type 0} (m n : Children) (t : FinMap order X) (p : List ℕ) → IsIndex m t
    → ((q k : List ℕ) → has_child n q k ≡ (has_child m q k && not (is_parent q p && eq_by_cmp order k p))) → IsIndex n (remove t p)
IsIndex-gone m n t p h e = record { exact = λ q k. e q k ∙ ap (λ b. b && not (is_parent q p && eq_by_cmp order k p)) (h.exact q k) ∙ by_case q k (eq_by_cmp order k p) refl ∙ ap (λ b. is_parent q k && b) (sym (gone_key t p k)) }
  where
    by_case : (q k : List ℕ) (c : Bool) → eq_by_cmp order k p ≡ c → ((is_parent q k && contains_key t k) && not (is_parent q p && c)) ≡ (is_parent q k && is_some (cond c None (get t k)))
    by_case q k true c = subst (λ b. ((is_parent q k && contains_key t k) && not (b && true)) ≡ (is_parent q k && false)) (ap (is_parent q) (same_key k p c)) (gone (is_parent q k) (contains_key t k))
    by_case q k false c = stays (is_parent q k && contains_key t k) (is_parent q p)

pub IsIndex-empty : (X : Type 0) (m : Children) → m.entries ≡ [] → IsIndex {X = X} m empty
IsIndex-empty X m e = record { exact = λ p k. ap (λ (es : List (List ℕ × set.BTreeSet (List ℕ))). is_in (lookup (is_at (order p)) es) k) e ∙ sym (ap (λ (o : Option X). is_parent p k && is_some o) (get-empty order k) ∙ and_false (is_parent p k)) }
