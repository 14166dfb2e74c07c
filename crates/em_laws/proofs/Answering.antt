-- The names that a desk tells of a directory under own changes are those of the tree that the job
-- sees.
use Rattle.std.proofs.Common.{◌≡◌, ◌≢◌, ℕ, Bool, true, false, cond, List, [], ◌∷◌, Option, Some, None, refl, sym, ap, ◌∙◌}
use Rattle.std.specs.Prelude.{IsSome, is_some, unwrap_or, filter_map, option_map}
use Rattle.std.specs.declared.cmp.Ordering.{Ordering}
use Rattle.std.specs.declared.cmp.Ordering.TheVariants.{Less, Equal, Greater}
use Rattle.std.specs.Ordering.{match_ordering, ordering_reverse}
use Rattle.std.specs.Cmp.Lexicographic.{nat_list_cmp_total}
use Rattle.std.specs.List.{AllByRecursion}
use Rattle.std.specs.List.Sorted.{IsStrictlySortedBy}
use Rattle.std.specs.BTreeMap.{is_at}
use Rattle.std.specs.BTreeSet.{insert_key}
use Rattle.std.specs.Set.{remove_key}
use Rattle.std.specs.FinMap.{get, keys}
use Rattle.em_path.specs.Paths.{IsPath, parent_text, last_of}
use Rattle.em_tree.specs.declared.node.Kind.{Kind}
use Rattle.em_tree.specs.declared.node.Kind.TheVariants as kind
use Rattle.em_tree.specs.declared.node.Node.{Node}
use Rattle.em_tree.specs.declared.node.Node.TheVariants.{File, Dir, Link}
use Rattle.em_tree.specs.declared.state.State.{State}
use Rattle.em_tree.specs.Trees.{Table, Changes, IsTree, kind_of, laid_over}
use Rattle.em_tree.specs.Names.{children_of, in_dir, names_of}
use Rattle.em_tree.proofs.Maps.{order}
use Rattle.em_tree.proofs.Laying.{over}
use Rattle.em_tree.proofs.Lawful.{get-laid_over}
use Rattle.em_tree.proofs.Naming.{IsNameList-names}
use Rattle.em_view.specs.Names.{amended, amended_all, with_own}
use Rattle.em_chain.specs.Listing.{IsListing, changed_by, changed_at}
use Rattle.em_chain.proofs.Naming.{listing_put, listing_gone, listing_touched, listing_of_tree, listing_of_none, names_listed, named_insert, named_remove, component_of, no_last, parents_are}
use Rattle.em_laws.specs.Expanded.{names_by, names_seen}
use Rattle.em_laws.proofs.Making.{own_names}

-- ---- names stay in order

below_further : (x y : List ℕ) (ns : List (List ℕ)) → order x y ≡ Less → AllByRecursion (λ z. order y z ≡ Less) ns → AllByRecursion (λ z. order x z ≡ Less) ns
below_further x y [] e h = tt
below_further x y (n ∷ ns) e h = (nat_list_cmp_total.trans x y n e h.0, below_further x y ns e h.1)

below_inserted : (x k : List ℕ) (ns : List (List ℕ)) → order x k ≡ Less → AllByRecursion (λ z. order x z ≡ Less) ns → AllByRecursion (λ z. order x z ≡ Less) (insert_key order ns k)
below_inserted x k [] e h = (e, tt)
below_inserted x k (n ∷ ns) e h = by_case (order k n) (below_inserted x k ns e h.1)
  where
    by_case : (r : Ordering) → AllByRecursion (λ z. order x z ≡ Less) (insert_key order ns k) → AllByRecursion (λ z. order x z ≡ Less) (match_ordering r (k ∷ n ∷ ns) (n ∷ ns) (n ∷ insert_key order ns k))
    by_case Less m = (e, h)
    by_case Equal m = h
    by_case Greater m = (h.0, m)

rise_inserted : (ns : List (List ℕ)) (k : List ℕ) → IsStrictlySortedBy order ns → IsStrictlySortedBy order (insert_key order ns k)
unfolding IsStrictlySortedBy
rise_inserted [] k h = (tt, tt)
rise_inserted (n ∷ ns) k h = by_case (order k n) refl (rise_inserted ns k h.1)
  where
    by_case : (r : Ordering) → order k n ≡ r → IsStrictlySortedBy order (insert_key order ns k) → IsStrictlySortedBy order (match_ordering r (k ∷ n ∷ ns) (n ∷ ns) (n ∷ insert_key order ns k))
    by_case Less e m = ((e, below_further k n ns e h.0), h)
    by_case Equal e m = h
    by_case Greater e m = (below_inserted n k ns (nat_list_cmp_total.antisymm n k ∙ ap ordering_reverse e) h.0, m)

below_removed : (x : List ℕ) (test : List ℕ → Bool) (ns : List (List ℕ)) → AllByRecursion (λ z. order x z ≡ Less) ns → AllByRecursion (λ z. order x z ≡ Less) (remove_key test ns)
below_removed x test [] h = tt
below_removed x test (n ∷ ns) h = by_case (test n) (below_removed x test ns h.1)
  where
    by_case : (b : Bool) → AllByRecursion (λ z. order x z ≡ Less) (remove_key test ns) → AllByRecursion (λ z. order x z ≡ Less) (cond b ns (n ∷ remove_key test ns))
    by_case true m = h.1
    by_case false m = (h.0, m)

rise_removed : (test : List ℕ → Bool) (ns : List (List ℕ)) → IsStrictlySortedBy order ns → IsStrictlySortedBy order (remove_key test ns)
unfolding IsStrictlySortedBy
rise_removed test [] h = tt
rise_removed test (n ∷ ns) h = by_case (test n) (rise_removed test ns h.1)
  where
    by_case : (b : Bool) → IsStrictlySortedBy order (remove_key test ns) → IsStrictlySortedBy order (cond b ns (n ∷ remove_key test ns))
    by_case true m = h.1
    by_case false m = (below_removed n test ns h.0, m)

-- ---- one path after another

module _ (d : Changes) (p : List ℕ) (paths : (k : List ℕ) → IsSome (get d k) → IsPath k) where
  listing_step : (q : List ℕ) (o : Option (Option Node)) (l : Option (List ℕ)) (t : Table) (ns : List (List ℕ)) → get d q ≡ o → last_of q ≡ l → parent_text q ≡ Some p → IsListing p t ns → IsListing p (changed_by o q t) (amended o l ns)
  listing_step q None l t ns e f up h = h
  listing_step q (Some (Some n)) None t ns e f up h = absurd (no_last q p (paths q (ap is_some e)) (sym f) up)
  listing_step q (Some None) None t ns e f up h = absurd (no_last q p (paths q (ap is_some e)) (sym f) up)
  listing_step q (Some (Some n)) (Some name) t ns e f up h =
      let path = paths q (ap is_some e) in
      let ms = insert_key order ns name in
      let named = named_insert ns name ms refl (rise_inserted ns name h.names.rising) h.names (component_of q name path (sym f)) in
      listing_put p q name t ns ms path up (sym f) named h n refl
  listing_step q (Some None) (Some name) t ns e f up h =
      let path = paths q (ap is_some e) in
      let ms = remove_key (is_at (order name)) ns in
      let named = named_remove ns (is_at (order name)) ms refl (rise_removed (is_at (order name)) ns h.names.rising) h.names in
      listing_gone p q name t ns ms path up (sym f) named h refl

  listing_amended : (qs : List (List ℕ)) (t : Table) (ns : List (List ℕ)) → AllByRecursion (λ k. parent_text k ≡ Some p) qs → IsListing p t ns → IsListing p (changed_at (get d) qs t) (amended_all d qs ns)
  listing_amended [] t ns ups h = h
  listing_amended (q ∷ qs) t ns ups h = listing_amended qs (changed_by (get d q) q t) (amended (get d q) (last_of q) ns) ups.1 (listing_step q (get d q) (last_of q) t ns refl refl ups.0 h)

  listing_below : (t : Table) → IsTree t → IsListing p t (unwrap_or (names_of t p) [])
  listing_below t low = by_kind (kind_of (get t p)) refl
    where
      found : List (List ℕ)
      found = filter_map last_of (children_of t p)

      by_kind : (k : Kind) → kind_of (get t p) ≡ k → IsListing p t (unwrap_or (in_dir k found) [])
      by_kind kind.Absent e = listing_of_none t p low (ap (λ (k : Kind). in_dir k found) e)
      by_kind kind.File e = listing_of_none t p low (ap (λ (k : Kind). in_dir k found) e)
      by_kind kind.Link e = listing_of_none t p low (ap (λ (k : Kind). in_dir k found) e)
      by_kind kind.Dir e = listing_of_tree t p found low (ap (λ (k : Kind). in_dir k found) e) (IsNameList-names t p low)

  own_listing : (t : Table) → IsTree t → IsListing p (laid_over d t) (with_own d p (unwrap_or (names_of t p) []))
  own_listing t low =
      let ns = unwrap_or (names_of t p) [] in
      listing_touched (get d) d t (laid_over d t) p (get-laid_over d t) (λ k e. e) (with_own d p ns) (listing_amended (children_of d p) t ns (parents_are p (keys d)) (listing_below t low))

-- ---- what is told

no_names : (k : Kind) (ns : List (List ℕ)) → k ≢ kind.Dir → in_dir k ns ≡ None
no_names kind.Absent ns h = refl
no_names kind.File ns h = refl
no_names kind.Dir ns h = absurd (h refl)
no_names kind.Link ns h = refl

there_some : (o : Option Node) → kind_of o ≡ kind.Dir → IsSome o
there_some None e = absurd cc
there_some (Some n) e = refl

module _ (s : State) (d : Changes) (p : List ℕ) where
  none_by : (m : Option (Option Node)) → kind_of (over m (get s.tree p)) ≢ kind.Dir → names_by m s d p ≡ None
  none_by None h = ap (option_map (with_own d p)) (no_names (kind_of (get s.tree p)) (filter_map last_of (children_of s.tree p)) h)
  none_by (Some None) h = refl
  none_by (Some (Some (File body stamp))) h = refl
  none_by (Some (Some (Dir stamp))) h = absurd (h refl)
  none_by (Some (Some (Link text stamp))) h = refl

  pub names_true : IsTree s.tree → IsTree (laid_over d s.tree) → ((k : List ℕ) → IsSome (get d k) → IsPath k) → names_seen s d p ≡ names_of (laid_over d s.tree) p
  names_true low high paths = by_kind (kind_of (get (laid_over d s.tree) p)) refl
    where
      found : List (List ℕ)
      found = filter_map last_of (children_of (laid_over d s.tree) p)

      other : kind_of (get (laid_over d s.tree) p) ≢ kind.Dir → names_seen s d p ≡ names_of (laid_over d s.tree) p
      other h = none_by (get d p) (λ e. h (ap kind_of (get-laid_over d s.tree p) ∙ e)) ∙ sym (no_names (kind_of (get (laid_over d s.tree) p)) found h)

      by_kind : (k : Kind) → kind_of (get (laid_over d s.tree) p) ≡ k → names_seen s d p ≡ names_of (laid_over d s.tree) p
      by_kind kind.Absent e = other (λ dir. (let z : kind.Absent ≡ kind.Dir = sym e ∙ dir in cc))
      by_kind kind.File e = other (λ dir. (let z : kind.File ≡ kind.Dir = sym e ∙ dir in cc))
      by_kind kind.Link e = other (λ dir. (let z : kind.Link ≡ kind.Dir = sym e ∙ dir in cc))
      by_kind kind.Dir e = own_names s d p e ∙ names_listed (laid_over d s.tree) p (with_own d p (unwrap_or (names_of s.tree p) [])) (high.paths p (there_some (get (laid_over d s.tree) p) e)) e (own_listing d p paths s.tree low)
