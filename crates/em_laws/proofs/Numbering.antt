-- The numbers of changes: no two changes of a build have the same, and each is above all stamps
-- that were there.
use Rattle.std.proofs.Common.{◌≡◌, ℕ, ◌+◌, ◌<◌, ◌≤◌, Bool, true, false, cond, List, [], ◌∷◌, map, Option, Some, None, Ok, arith, refl, sym, ap, subst, ◌∙◌}
use Rattle.std.specs.Prelude.{max}
use Rattle.std.specs.FinMap as finite
use Rattle.std.specs.FinMap.{get, entries, find, get-entries, get-empty}
use Rattle.std.specs.Ordering.{eq_by_cmp}
use Rattle.em_base.proofs.Lemmas.{by_cases}
use Rattle.em_tree.specs.declared.node.Node.{Node}
use Rattle.em_tree.specs.declared.node.Node.TheVariants.{File, Dir, Link}
use Rattle.em_tree.specs.declared.state.State.{State}
use Rattle.em_tree.specs.Trees.{Table, Changes, stamp_in, stamp_of, greatest, base_of, changed}
use Rattle.em_tree.proofs.Maps.{order}
use Rattle.em_tree.proofs.Laying.{over, get-changed}
use Rattle.em_tree.proofs.Lawful.{get-laid_over}
use Rattle.em_view.specs.Actions.{Workspace, snapshot}
use Rattle.em_view.specs.Rows.{change_number, becomes, put, place, make_dir, remove, touch}
use Rattle.em_laws.specs.Nodes.{tree_seen}
use Rattle.em_laws.specs.Files.{AreOld}
use Rattle.em_laws.specs.Calls.{next_number, IsPaid, IsCounted, with_stamp}
use Rattle.em_laws.proofs.Calling.{Changed, next}
use Rattle.em_laws.proofs.Allowing.{tree_alone, tree_both, put_behind, place_behind, make_behind, remove_behind, touch_behind}

-- ---- numbers

pub rises : (w v : Workspace) → IsCounted w v → next_number v ≡ next_number w + 1
rises w v h = omega (arith, h.count, h.base, h.job)

pub later : (base j i k l : ℕ) → j < i → k ≤ 1048576 → 1 ≤ l → change_number base j k < change_number base i l
later base j i k l lt low some = omega arith

pub one_change : (base j i k l : ℕ) → 1 ≤ k → k ≤ 1048576 → 1 ≤ l → l ≤ 1048576 → change_number base j k ≡ change_number base i l → (j ≡ i) × (k ≡ l)
one_change base j i k l some low more high e = (omega arith, omega arith)

pub room : (n : ℕ) (w v : Workspace) → IsPaid n w v → IsCounted w v → w.count + w.fuel ≤ w.given → v.count + v.fuel ≤ v.given
room n w v (u, e, le, lt) h r = omega (arith, h.count, h.given)

-- ---- stamps

stamp_by : (b : Bool) (c x : Option Node) (m top : ℕ) → (stamp_of c ≡ Some m → m ≤ top) → (stamp_of x ≡ Some m → m ≤ top) → stamp_of (cond b c x) ≡ Some m → m ≤ top
stamp_by true c x m top f g e = f e
stamp_by false c x m top f g e = g e

module _ (s : State) (w : Workspace) (p : List ℕ) (c : Option Node) (v : Workspace) (old : AreOld s w) (small : (m : ℕ) → stamp_of c ≡ Some m → m ≤ next s w) where
  abbrev t : Table
  t = tree_seen s w

  before_small : (q : List ℕ) (m : ℕ) → stamp_of (get t q) ≡ Some m → m ≤ next s w
  before_small q m e = let le : m ≤ change_number w.base w.job w.count = old q m e in omega arith

  changed_small : (q : List ℕ) (m : ℕ) → stamp_of (get (changed t p c) q) ≡ Some m → m ≤ next s w
  changed_small q m e = stamp_by (eq_by_cmp order q p) c (get t q) m (next s w) (small m) (before_small q m) (sym (ap stamp_of (get-changed t p c q)) ∙ e)

  seen_small : (above : Option (List ℕ)) → v.changes ≡ becomes p c above (next s w) w.changes → (q : List ℕ) (m : ℕ) → stamp_of (get (tree_seen s v) q) ≡ Some m → m ≤ next s w
  seen_small None is q m e = changed_small q m (sym (ap (λ (u : Table). stamp_of (get u q)) (tree_alone s w v p c (next s w) is)) ∙ e)
  seen_small (Some dir) is q m e = stamp_by (eq_by_cmp order q dir) (Some (Dir (next s w))) (get (changed t p c) q) m (next s w)
      (λ f. (let same : next s w ≡ m = cc in omega (arith, same))) (changed_small q m)
      (sym (ap stamp_of (get-changed (changed t p c) dir (Some (Dir (next s w))) q)) ∙ sym (ap (λ (u : Table). stamp_of (get u q)) (tree_both s w v p c (Some dir) dir (next s w) refl is)) ∙ e)

  old_still : (above : Option (List ℕ)) (units : ℕ) → Changed s w p c above units v → AreOld s v
  old_still above units h q m e =
      let top : change_number v.base v.job v.count ≡ next s w = ap (λ b. change_number b v.job v.count) h.base ∙ ap (λ j. change_number w.base j v.count) h.job ∙ ap (change_number w.base w.job) h.count in
      subst (λ k. m ≤ k) (sym top) (seen_small above h.changes q m e)

module _ (s : State) (w : Workspace) (old : AreOld s w) where
  own : (n m : ℕ) → ◌≡◌ {A = Option ℕ} (Some n) (Some m) → n ≤ next s w → m ≤ next s w
  own n m e le = let same : n ≡ m = cc in omega (arith, same)

  none : (m : ℕ) → ◌≡◌ {A = Option ℕ} None (Some m) → m ≤ next s w
  none m e = absurd cc

  pub put_old : (p bytes : List ℕ) → (put p bytes (snapshot s) w).0 ≡ Ok tt → AreOld s (put p bytes (snapshot s) w).1
  put_old p bytes e = let r = put_behind s w p bytes e in old_still s w r.0 (Some (File bytes (next s w))) (put p bytes (snapshot s) w).1 old (λ m f. own (next s w) m f (omega arith)) _ _ r.2

  pub place_old : (p bytes : List ℕ) (stamp : ℕ) → stamp ≤ next_number w → (place p bytes stamp (snapshot s) w).0 ≡ Ok tt → AreOld s (place p bytes stamp (snapshot s) w).1
  place_old p bytes stamp le e = let r = place_behind s w p bytes stamp e in old_still s w r.0 (Some (File bytes stamp)) (place p bytes stamp (snapshot s) w).1 old (λ m f. own stamp m f (omega arith)) _ _ r.2

  pub make_old : (p : List ℕ) → (make_dir p (snapshot s) w).0 ≡ Ok tt → AreOld s (make_dir p (snapshot s) w).1
  make_old p e = let r = make_behind s w p e in old_still s w r.0 (Some (Dir (next s w))) (make_dir p (snapshot s) w).1 old (λ m f. own (next s w) m f (omega arith)) _ _ r.2

  pub remove_old : (p : List ℕ) → (remove p (snapshot s) w).0 ≡ Ok tt → AreOld s (remove p (snapshot s) w).1
  remove_old p e = let r = remove_behind s w p e in old_still s w r.0 None (remove p (snapshot s) w).1 old (λ m f. none m f) (Some r.2.0) r.1 r.2.2

  stamped_at : (n m : ℕ) (node : Node) → stamp_of (Some (with_stamp n node)) ≡ Some m → n ≡ m
  stamped_at n m (File bytes stamp) e = cc
  stamped_at n m (Dir stamp) e = cc
  stamped_at n m (Link text stamp) e = cc

  pub touch_old : (p : List ℕ) → (touch p (snapshot s) w).0 ≡ Ok tt → AreOld s (touch p (snapshot s) w).1
  touch_old p e = let r = touch_behind s w p e in
      old_still s w r.0 (Some (with_stamp (next s w) r.2.0)) (touch p (snapshot s) w).1 old (λ m f. own (next s w) m (ap Some (stamped_at (next s w) m r.2.0 f)) (omega arith)) None r.1 r.2.2

  pub above_all : (q : List ℕ) (n : ℕ) → stamp_of (get (tree_seen s w) q) ≡ Some n → n < next_number w
  above_all q n e = let le : n ≤ change_number w.base w.job w.count = old q n e in omega arith

  pub later_old : (u : State) (v : Workspace) → w.count ≤ 1048576 → v.base ≡ w.base → w.job < v.job → tree_seen u v ≡ tree_seen s w → AreOld u v
  later_old u v low base lt same q n e =
      let le : n ≤ change_number w.base w.job w.count = old q n (ap (λ (x : Table). stamp_of (get x q)) (sym same) ∙ e) in
      omega arith

-- ---- the first job

find_most : (q : List ℕ) (es : List (List ℕ × Node)) (n : Node) → find order q es ≡ Some n → stamp_in n ≤ greatest (map (λ e. e.1) es)
find_most q [] n e = absurd cc
find_most q (x ∷ es) n e = by_cases (eq_by_cmp order q x.0) (λ b. cond b (Some x.1) (find order q es) ≡ Some n → stamp_in n ≤ max (stamp_in x.1) (greatest (map (λ y. y.1) es)))
    (λ _ f. (let same : stamp_in x.1 ≡ stamp_in n = ap stamp_in (let is : x.1 ≡ n = cc in is) in omega (arith, same)))
    (λ _ f. (let le : stamp_in n ≤ greatest (map (λ y. y.1) es) = find_most q es n f in omega arith)) e

stamp_low : (t : Table) (q : List ℕ) (x : Option Node) (n : ℕ) → get t q ≡ x → stamp_of x ≡ Some n → n ≤ base_of t
stamp_low t q None n is e = absurd cc
stamp_low t q (Some node) n is e =
    let le : stamp_in node ≤ base_of t = find_most q (entries t) node (sym (get-entries t q) ∙ is) in
    let same : stamp_in node ≡ n = cc in
    omega (arith, same)

pub first_old : (s : State) (w : Workspace) → w.base ≡ base_of s.tree → w.changes ≡ finite.empty → AreOld s w
first_old s w base none q n e =
    let same : get (tree_seen s w) q ≡ get s.tree q = get-laid_over w.changes s.tree q ∙ ap (λ (d : Changes). over (get d q) (get s.tree q)) none ∙ ap (λ (o : Option (Option Node)). over o (get s.tree q)) (get-empty order q) in
    let le : n ≤ base_of s.tree = stamp_low s.tree q (get s.tree q) n refl (ap stamp_of (sym same) ∙ e) in
    omega (arith, base)
