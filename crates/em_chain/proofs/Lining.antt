-- The chains of all paths: what a call changes.
use Rattle.std.proofs.Common.{◌≡◌, ◌≢◌, ℕ, Bool, true, false, cond, not, ◌&&◌, ◌||◌, List, [], ◌∷◌, Option, Some, None, length, nat_eq, arith, refl, sym, ap, subst, ◌∙◌}
use Rattle.std.proofs.lemmas.Bool.Decides.{nat_tests}
use Rattle.std.specs.Prelude.{IsSome, is_some, nat_lt}
use Rattle.std.proofs.lemmas.Bool.{ltb-true}
use Rattle.std.specs.Ordering.{nat_cmp, eq_by_cmp}
use Rattle.std.specs.Cmp.Lexicographic.{nat_list_cmp_total}
use Rattle.std.specs.FinMap.{get, entries, insert, remove, empty, get-insert, get-remove, get-empty, from_entries, put, find}
use Rattle.std.specs.FinMap.Entries.{by_order}
use Rattle.std.specs.declared.cmp.Ordering.{Ordering}
use Rattle.std.specs.declared.cmp.Ordering.TheVariants.{Less, Equal, Greater}
use Rattle.std.specs.List.Sorted.{IsStrictlySortedBy}
use Rattle.std.specs.Map.{lookup, keys_of}
use Rattle.std.specs.BTreeMap.{BTreeMap, is_at, UpdatesBy, WritesThrough}
use Rattle.em_path.specs.Paths.{parent_text}
use Rattle.em_tree.specs.declared.node.Node.{Node}
use Rattle.std.specs.BTreeMap as tree
use Rattle.std.specs.BTreeSet.{BTreeSet}
use Rattle.std.specs.List.{list_any}
use Rattle.std.specs.Ordering.{is_eq}
use Rattle.em_tree.specs.Index.{Children, IsIndex, has_child, is_in, is_parent}
use Rattle.em_tree.proofs.Maps.{order, exact, entries_is, path_found, path_put, path_taken}
use Rattle.em_tree.proofs.Tables.{same_key}
use Rattle.em_tree.proofs.Indexes.{IsIndex-same, IsIndex-put, IsIndex-new, IsIndex-back, IsIndex-gone, IsIndex-empty, some_is}
use Rattle.em_chain.specs.declared.lines.PathChain.{PathChain}
use Rattle.em_chain.specs.Pairs.{Pairs}
use Rattle.em_chain.specs.Chains.{from_job, roomed, without}
use Rattle.em_chain.proofs.Pairs.{apart}
use Rattle.em_chain.specs.Lines.{LineTable, chain_in, chain_at, IsLines}

some_same : {A : Type 0} (x y : A) → Some x ≡ Some y → x ≡ y
some_same x y e = cc

none_is : {A : Type 0} (y : A) → None ≡ Some y → ⊥
none_is y e = absurd (cc)

pub line_entries : (es : List (List ℕ × PathChain)) → IsStrictlySortedBy order (keys_of es) → entries (from_entries {R = order} es) ≡ es
line_entries = entries_is nat_list_cmp_total exact

-- what stands at q after a line is put at p, and taken from there
pub line_put : (t : LineTable) (p q : List ℕ) (line : PathChain) → chain_at (insert t p line) q ≡ cond (eq_by_cmp order q p) line.chain (chain_at t q)
line_put t p q line = ap chain_in (get-insert nat_list_cmp_total t p line q) ∙ by_case (eq_by_cmp order q p)
  where
    by_case : (b : Bool) → chain_in (cond b (Some line) (get t q)) ≡ cond b line.chain (chain_in (get t q))
    by_case true = refl
    by_case false = refl

pub line_gone : (t : LineTable) (p q : List ℕ) → chain_at (remove t p) q ≡ cond (eq_by_cmp order q p) [] (chain_at t q)
line_gone t p q = ap chain_in (get-remove nat_list_cmp_total t p q) ∙ by_case (eq_by_cmp order q p)
  where
    by_case : (b : Bool) → chain_in (cond b None (get t q)) ≡ cond b [] (chain_in (get t q))
    by_case true = refl
    by_case false = refl

-- at the path itself the chain is what was there
pub here : (f : Pairs → Pairs) (t : LineTable) (p q : List ℕ) (c : Pairs) → c ≡ f (chain_at t p) → cond (eq_by_cmp order q p) c (chain_at t q) ≡ cond (eq_by_cmp order q p) (f (chain_at t q)) (chain_at t q)
here f t p q c e = by_case (eq_by_cmp order q p) refl
  where
    by_case : (b : Bool) → eq_by_cmp order q p ≡ b → cond b c (chain_at t q) ≡ cond b (f (chain_at t q)) (chain_at t q)
    by_case true k = e ∙ ap (λ (r : List ℕ). f (chain_at t r)) (sym (same_key q p k))
    by_case false k = refl

-- what f leaves where nothing is there
pub nowhere : (f : Pairs → Pairs) (t : LineTable) (p q : List ℕ) → f (chain_at t p) ≡ chain_at t p → chain_at t q ≡ cond (eq_by_cmp order q p) (f (chain_at t q)) (chain_at t q)
nowhere f t p q e = by_case (eq_by_cmp order q p) refl
  where
    by_case : (b : Bool) → eq_by_cmp order q p ≡ b → chain_at t q ≡ cond b (f (chain_at t q)) (chain_at t q)
    by_case true k = ap (chain_at t) (same_key q p k) ∙ sym e ∙ ap (λ (r : List ℕ). f (chain_at t r)) (sym (same_key q p k))
    by_case false k = refl

-- a line at p, where its chain isn't empty and its parent is p's
module _ (t : LineTable) (p : List ℕ) (line : PathChain) (m : Children) (h : IsLines m t) (full : line.chain ≢ []) (home : line.above ≡ parent_text p) where
  put_filled : (q : List ℕ) (l : PathChain) (b : Bool) → cond b (Some line) (get t q) ≡ Some l → l.chain ≢ []
  put_filled q l true e = subst (λ (x : PathChain). x.chain ≢ []) (some_same line l e) full
  put_filled q l false e = h.filled q l e

  put_homed : (q : List ℕ) (l : PathChain) (b : Bool) → eq_by_cmp order q p ≡ b → cond b (Some line) (get t q) ≡ Some l → l.above ≡ parent_text q
  put_homed q l true k e = ap (λ (x : PathChain). x.above) (sym (some_same line l e)) ∙ home ∙ ap parent_text (sym (same_key q p k))
  put_homed q l false k e = h.homed q l e

  put_lines : (n : Children) → IsIndex n (insert t p line) → IsLines n (insert t p line)
  put_lines n i = record {
    filled = λ q l e. put_filled q l (eq_by_cmp order q p) (sym (get-insert nat_list_cmp_total t p line q) ∙ e);
    homed = λ q l e. put_homed q l (eq_by_cmp order q p) refl (sym (get-insert nat_list_cmp_total t p line q) ∙ e);
    indexed = i;
  }

  pub IsLines-put : IsSome (get t p) → IsLines m (insert t p line)
  IsLines-put there = put_lines m (IsIndex-put m t p line h.indexed there)

  pub IsLines-new : (n : Children) → ((q k : List ℕ) → has_child n q k ≡ (has_child m q k || (is_parent q p && eq_by_cmp order k p))) → IsLines n (insert t p line)
  IsLines-new n e = put_lines n (IsIndex-new m n t p line h.indexed e)

-- the index is as it was
reindexed : (t : LineTable) (m n : Children) → IsLines m t → IsIndex n t → IsLines n t
reindexed t m n h i = record { filled = h.filled; homed = h.homed; indexed = i }

pub IsLines-same : (t : LineTable) (m n : Children) → IsLines m t → ((q k : List ℕ) → has_child n q k ≡ has_child m q k) → IsLines n t
IsLines-same t m n h e = reindexed t m n h (IsIndex-same m n t h.indexed e)

pub IsLines-back : (t : LineTable) (m n o : Children) (p : List ℕ) → IsLines m t → get t p ≡ None
    → ((q k : List ℕ) → has_child n q k ≡ (has_child m q k || (is_parent q p && eq_by_cmp order k p)))
    → ((q k : List ℕ) → has_child o q k ≡ (has_child n q k && not (is_parent q p && eq_by_cmp order k p))) → IsLines o t
IsLines-back t m n o p h none e f = reindexed t m o h (IsIndex-back m n o t p h.indexed none e f)

pub IsLines-gone : (t : LineTable) (m n : Children) (p : List ℕ) → IsLines m t
    → ((q k : List ℕ) → has_child n q k ≡ (has_child m q k && not (is_parent q p && eq_by_cmp order k p))) → IsLines n (remove t p)
IsLines-gone t m n p h e = record {
  filled = λ q l g. h.filled q l (was q l (eq_by_cmp order q p) (sym (get-remove nat_list_cmp_total t p q) ∙ g));
  homed = λ q l g. h.homed q l (was q l (eq_by_cmp order q p) (sym (get-remove nat_list_cmp_total t p q) ∙ g));
  indexed = IsIndex-gone m n t p h.indexed e;
}
  where
    was : (q : List ℕ) (l : PathChain) (b : Bool) → cond b None (get t q) ≡ Some l → get t q ≡ Some l
    was q l true g = absurd (none_is l g)
    was q l false g = g

pub IsLines-empty : (m : Children) → m.entries ≡ [] → IsLines m empty
IsLines-empty m e = record {
  filled = λ q l g. absurd (none_is l (sym (get-empty order q) ∙ g));
  homed = λ q l g. absurd (none_is l (sym (get-empty order q) ∙ g));
  indexed = IsIndex-empty PathChain m e;
}

-- ---- a chain that is written through what the map lent

module _ (m n : BTreeMap (List ℕ) PathChain) (ch : Children) (p : List ℕ) (old line : PathChain) (found : Some old ≡ lookup (is_at (order p)) m.entries)
    (good : IsStrictlySortedBy order (keys_of m.entries) × IsLines ch (from_entries {R = order} m.entries)) (w : WritesThrough order (order p) m line n) (above : line.above ≡ old.above) where
  there : get (from_entries {R = order} m.entries) p ≡ Some old
  there = sym (path_found m.entries p) ∙ sym found

  through_is : from_entries {R = order} n.entries ≡ insert (from_entries {R = order} m.entries) p line
  through_is = path_put m n p line (w.3 (some_is found))

  pub through_lines : line.chain ≢ [] → IsStrictlySortedBy order (keys_of n.entries) × IsLines ch (from_entries {R = order} n.entries)
  through_lines full = (
    w.4,
    subst (λ (t : LineTable). IsLines ch t) (sym through_is) (IsLines-put (from_entries m.entries) p line ch good.1 full (above ∙ good.1.homed p old there) (ap is_some there)),
  )

  pub through_at : (t : LineTable) (f : Pairs → Pairs) → from_entries {R = order} m.entries ≡ t → line.chain ≡ f old.chain
      → (q : List ℕ) → chain_at (from_entries {R = order} n.entries) q ≡ cond (eq_by_cmp order q p) (f (chain_at t q)) (chain_at t q)
  through_at t f is e q =
      ap (λ (u : LineTable). chain_at u q) through_is ∙ line_put (from_entries m.entries) p q line
      ∙ here f (from_entries m.entries) p q line.chain (e ∙ ap f (ap chain_in (sym there)))
      ∙ ap (λ (u : LineTable). cond (eq_by_cmp order q p) (f (chain_at u q)) (chain_at u q)) is

  pub through_same : (t : LineTable) → from_entries {R = order} m.entries ≡ t → line.chain ≡ old.chain → (q : List ℕ) → chain_at (from_entries {R = order} n.entries) q ≡ chain_at t q
  through_same t is e q = through_at t (λ c. c) is e q ∙ by_case (eq_by_cmp order q p)
    where
      by_case : (b : Bool) → cond b (chain_at t q) (chain_at t q) ≡ chain_at t q
      by_case true = refl
      by_case false = refl

  pub old_filled : old.chain ≢ []
  old_filled = good.1.filled p old there

  pub old_at : (t : LineTable) → from_entries {R = order} m.entries ≡ t → chain_at t p ≡ old.chain
  old_at t is = ap (λ (u : LineTable). chain_at u p) (sym is) ∙ ap chain_in there

-- no line is there
pub not_there : (es : List (List ℕ × PathChain)) (p : List ℕ) (t : LineTable) → from_entries {R = order} es ≡ t → None ≡ lookup (is_at (order p)) es → get t p ≡ None
not_there es p t is none = ap (λ (u : LineTable). get u p) (sym is) ∙ sym (path_found es p) ∙ sym none

pub is_there : (es : List (List ℕ × PathChain)) (p : List ℕ) (line : PathChain) (t : LineTable) → from_entries {R = order} es ≡ t → Some line ≡ lookup (is_at (order p)) es → get t p ≡ Some line
is_there es p line t is some = ap (λ (u : LineTable). get u p) (sym is) ∙ sym (path_found es p) ∙ sym some

-- ---- chains that aren't empty

cons_full : (e : ℕ × Option Node) (c : Pairs) → (e ∷ c) ≢ []
cons_full e c h = absurd (cc)

pub put_full : (j : ℕ) (v : Option Node) (c : Pairs) → put nat_cmp j v c ≢ []
put_full j v [] = cons_full (j, v) []
put_full j v (e ∷ c) = by_rank (nat_cmp j e.0)
  where
    by_rank : (r : Ordering) → by_order r ((j, v) ∷ e ∷ c) ((e.0, v) ∷ c) (e ∷ put nat_cmp j v c) ≢ []
    by_rank Less = cons_full (j, v) (e ∷ c)
    by_rank Equal = cons_full (e.0, v) c
    by_rank Greater = cons_full e (put nat_cmp j v c)

pub roomed_full : (j : ℕ) (c : Pairs) → c ≢ [] → roomed j c ≢ []
roomed_full j c full = by_case (is_some (find nat_cmp j c))
  where
    by_case : (b : Bool) → cond b c (put nat_cmp j None c) ≢ []
    by_case true = full
    by_case false = put_full j None c

pub counted_full : (c : Pairs) → nat_eq (length c) 0 ≡ false → c ≢ []
counted_full [] h = absurd (cc)
counted_full (e ∷ c) h = cons_full e c

pub cut_full : (j : ℕ) (c : Pairs) → IsSome (find nat_cmp j c) → from_job j c ≢ []
cut_full j [] h = absurd (cc)
cut_full j (e ∷ c) h = by_case (nat_lt e.0 j) refl h (cut_full j c)
  where
    by_case : (b : Bool) → nat_lt e.0 j ≡ b → IsSome (cond (eq_by_cmp nat_cmp j e.0) (Some e.1) (find nat_cmp j c)) → (IsSome (find nat_cmp j c) → from_job j c ≢ []) → cond (not b) (e ∷ from_job j c) (from_job j c) ≢ []
    by_case true k h rest = rest (subst (λ b. IsSome (cond b (Some e.1) (find nat_cmp j c))) (apart j e.0 (ltb-true e.0 j k)) h)
    by_case false k h rest = cons_full e (from_job j c)

pub no_chain : (j : ℕ) (t : LineTable) (p : List ℕ) → get t p ≡ None → nat_eq (length (without j (chain_at t p))) 0 ≡ false → ⊥
no_chain j t p none h = let z : true ≡ false = sym (ap (λ (o : Option PathChain). nat_eq (length (without j (chain_in o))) 0) none) ∙ h in absurd (cc)

pub no_pair_there : (j : ℕ) (t : LineTable) (p : List ℕ) → get t p ≡ None → IsSome (find nat_cmp j (chain_at t p)) → ⊥
no_pair_there j t p none h = let z : false ≡ true = sym (ap (λ (o : Option PathChain). is_some (find nat_cmp j (chain_in o))) none) ∙ h in absurd (cc)

pub at_line : (es : List (List ℕ × PathChain)) (p : List ℕ) (line : PathChain) (t : LineTable) → from_entries {R = order} es ≡ t → Some line ≡ lookup (is_at (order p)) es → chain_at t p ≡ line.chain
at_line es p line t is some = ap chain_in (is_there es p line t is some)

-- ---- a line more, a line less

module _ (m n : BTreeMap (List ℕ) PathChain) (p : List ℕ) where
  pub taken_is : UpdatesBy order (order p) m n None → from_entries {R = order} n.entries ≡ remove (from_entries {R = order} m.entries) p
  taken_is u = path_taken m n p u

  pub taken_at : (t : LineTable) → UpdatesBy order (order p) m n None → from_entries {R = order} m.entries ≡ t → (q : List ℕ) → chain_at (from_entries {R = order} n.entries) q ≡ cond (eq_by_cmp order q p) [] (chain_at t q)
  taken_at t u is q = ap (λ (s : LineTable). chain_at s q) (taken_is u) ∙ line_gone (from_entries m.entries) p q ∙ ap (λ (s : LineTable). cond (eq_by_cmp order q p) [] (chain_at s q)) is

  pub taken_lines : (ch de : Children) → UpdatesBy order (order p) m n None → IsLines ch (from_entries {R = order} m.entries)
      → ((q k : List ℕ) → has_child de q k ≡ (has_child ch q k && not (is_parent q p && eq_by_cmp order k p))) → IsLines de (from_entries {R = order} n.entries)
  taken_lines ch de u h e = subst (λ (t : LineTable). IsLines de t) (sym (taken_is u)) (IsLines-gone (from_entries m.entries) ch de p h e)

  module _ (line : PathChain) (path : List ℕ) (same : path ≡ p) (u : UpdatesBy order (order path) m n (Some line)) where
    added_is : from_entries {R = order} n.entries ≡ insert (from_entries {R = order} m.entries) p line
    added_is = path_put m n path line u ∙ ap (λ (k : List ℕ). insert (from_entries {R = order} m.entries) k line) same

    pub added_at : (t : LineTable) (c : Pairs) → from_entries {R = order} m.entries ≡ t → line.chain ≡ c → (q : List ℕ) → chain_at (from_entries {R = order} n.entries) q ≡ cond (eq_by_cmp order q p) c (chain_at t q)
    added_at t c is e q = ap (λ (s : LineTable). chain_at s q) added_is ∙ line_put (from_entries m.entries) p q line
        ∙ ap (λ (s : LineTable). cond (eq_by_cmp order q p) line.chain (chain_at s q)) is ∙ ap (λ (d : Pairs). cond (eq_by_cmp order q p) d (chain_at t q)) e

    pub added_lines : (ch de : Children) (e : ℕ × Option Node) (c : Pairs) → line.chain ≡ e ∷ c → line.above ≡ parent_text p → IsLines ch (from_entries {R = order} m.entries)
        → ((q k : List ℕ) → has_child de q k ≡ (has_child ch q k || (is_parent q p && eq_by_cmp order k p))) → IsLines de (from_entries {R = order} n.entries)
    added_lines ch de e c full home h f = subst (λ (t : LineTable). IsLines de t) (sym added_is)
        (IsLines-new (from_entries m.entries) p line ch h (subst (λ (d : Pairs). d ≢ []) (sym full) (cons_full e c)) home de f)

-- nothing was there
pub place_new : (j : ℕ) (t : LineTable) (p q : List ℕ) → get t p ≡ None → cond (eq_by_cmp order q p) ((j, None) ∷ []) (chain_at t q) ≡ cond (eq_by_cmp order q p) (roomed j (chain_at t q)) (chain_at t q)
place_new j t p q none = here (roomed j) t p q ((j, None) ∷ []) (sym (ap (λ (o : Option PathChain). roomed j (chain_in o)) none))

pub erase_all : (j : ℕ) (t : LineTable) (p q : List ℕ) → nat_eq (length (without j (chain_at t p))) 0 ≡ true → cond (eq_by_cmp order q p) [] (chain_at t q) ≡ cond (eq_by_cmp order q p) (without j (chain_at t q)) (chain_at t q)
erase_all j t p q none = here (without j) t p q [] (is_nothing (without j (chain_at t p)) none)
  where
    is_nothing : (c : Pairs) → nat_eq (length c) 0 ≡ true → [] ≡ c
    is_nothing [] e = refl
    is_nothing (e ∷ c) h = absurd (grind (arith, nat_tests))

pub no_line : {A : Type 0} (o : Option A) → is_some o ≡ false → o ≡ None
no_line None h = refl
no_line (Some x) h = absurd (cc)

-- a directory's set that is empty may go
pub emptied_set : (m n o : Children) (parent : List ℕ) (s : BTreeSet (List ℕ)) (p k : List ℕ) → tree.get order n p ≡ cond (is_eq (order parent p)) (Some s) (tree.get order m p)
    → tree.get order o p ≡ cond (is_eq (order parent p)) None (tree.get order n p) → length s.keys ≡ 0 → has_child o p k ≡ has_child n p k
emptied_set m n o parent s p k written gone none = ap (λ (x : Option (BTreeSet (List ℕ))). is_in x k) gone ∙ by_case (is_eq (order parent p)) refl
  where
    is_nothing : (ks : List (List ℕ)) → length ks ≡ 0 → ks ≡ []
    is_nothing [] e = refl
    is_nothing (q ∷ ks) h = absurd (omega arith)

    by_case : (b : Bool) → is_eq (order parent p) ≡ b → is_in (cond b None (tree.get order n p)) k ≡ has_child n p k
    by_case true e =
        sym (ap (λ (x : Option (BTreeSet (List ℕ))). is_in x k) (written ∙ ap (λ b. cond b (Some s) (tree.get order m p)) e)
        ∙ ap (list_any (λ q. is_eq (order k q))) (is_nothing s.keys none))
    by_case false e = refl
