-- When a desk's call succeeds, what it costs and what it leaves, in the words of the laws.
use Rattle.std.proofs.Common.{◌≡◌, ◌≢◌, inl, inr, ℕ, ◌+◌, ◌-◌, ◌*◌, ◌<◌, ◌≤◌, Bool, true, false, cond, ltb, ◌&&◌, List, [], ◌∷◌, length, map, sum, Option, Some, None, Result, Ok, Err, arith, refl, sym, ap, subst, ◌∙◌}
use Rattle.std.proofs.lemmas.Bool.{ltb-true, ltb-false, le-ltb}
use Rattle.std.specs.Prelude.{◌↔◌, is_some, option_map, unwrap_or, slice_get, filter_map}
use Rattle.std.specs.FinMap as finite
use Rattle.std.specs.FinMap.{get, insert, contains_key}
use Rattle.em_base.proofs.Lemmas.{by_cases}
use Rattle.em_path.specs.Paths.{parent_text, last_of}
use Rattle.em_tree.specs.declared.node.Kind.{Kind}
use Rattle.em_tree.specs.declared.node.Kind.TheVariants as kind
use Rattle.em_tree.specs.declared.node.Node.{Node}
use Rattle.em_tree.specs.declared.node.Node.TheVariants.{File, Dir, Link}
use Rattle.em_tree.specs.declared.outcome.Outcome.{Outcome}
use Rattle.em_tree.specs.declared.state.State.{State}
use Rattle.em_tree.specs.Trees.{Table, Changes, kind_of, stamp_of, content_of, link_of, changed, laid_over}
use Rattle.em_tree.specs.Index.{is_parent}
use Rattle.em_tree.specs.Names.{children_of, in_dir, names_of}
use Rattle.em_tree.proofs.Naming.{children_none, parent_said}
use Rattle.em_view.specs.declared.no.FileNo.{FileNo}
use Rattle.em_view.specs.declared.no.FileNo.TheVariants as file
use Rattle.em_view.specs.declared.no.DeskNo.{DeskNo}
use Rattle.em_view.specs.declared.no.DeskNo.TheVariants as no
use Rattle.em_view.specs.Actions.{Workspace, snapshot, spend}
use Rattle.em_view.specs.Names.{with_own, names_size}
use Rattle.em_view.specs.Rows.{blocks, size_of, size_refusal, put_refusal, dir_refusal, stamped, names_refusal, becomes, put, place, make_dir, make_link, remove, touch, kind_at, stamp_at, content, names, link_at, outcome}
use Rattle.em_view.proofs.Fitting.{laid_insert, no_child, bare_but_dir}
use Rattle.em_laws.specs.Expanded.{names_seen}
use Rattle.em_laws.specs.Nodes.{tree_seen}
use Rattle.em_laws.specs.Files.{AreWhole}
use Rattle.em_laws.specs.Calls.{next_number, HasFuel, IsPaid, IsAsked, IsCounted, MayPut, MayMake, MayRemove, MayTouch, with_stamp}
use Rattle.em_laws.proofs.Expanding.{NoLinks, plainly, no_text, led_plain}
use Rattle.em_laws.proofs.Making.{own_names}
use Rattle.em_laws.proofs.Calling.{Out, Ends, Changed, next, led_at, leads_or, IsPut, IsPlaced, IsMade, RemovableAt, IsTakenAt, IsTaken, IsTouchedAt, IsTouched, put_there, put_lost, place_there, place_lost, make_there, make_lost, link_there, link_lost, link_told, remove_there, remove_lost, remove_plain, names_plain, touch_there, touch_lost, put_ends, place_ends, make_ends, remove_ends, touch_ends, kind_ends, stamp_ends, content_ends, names_ends, outcome_ends}
use Rattle.em_laws.proofs.Answering.{names_true}

-- ---- fuel

enough : (n f : ℕ) → 1 + blocks n ≤ f → n + 256 ≤ f * 256
enough n f h = omega arith

enough_back : (n f : ℕ) → n + 256 ≤ f * 256 → 1 + blocks n ≤ f
enough_back n f h = omega arith

one : (f : ℕ) → 1 ≤ f → 0 + 256 ≤ f * 256
one f h = omega arith

one_back : (f : ℕ) → 0 + 256 ≤ f * 256 → 1 ≤ f
one_back f h = omega arith

paid : (n : ℕ) (w v : Workspace) → w.fuel ≡ v.fuel + (1 + blocks n) → IsPaid n w v
paid n w v e = (blocks n, e, omega arith, omega arith)

paid_one : (w v : Workspace) → w.fuel ≡ v.fuel + (1 + 0) → IsPaid 0 w v
paid_one w v e = (0, e, omega arith, omega arith)

counted : (s : State) (w : Workspace) (p : List ℕ) (c : Option Node) (above : Option (List ℕ)) (units : ℕ) (v : Workspace) → Changed s w p c above units v → IsCounted w v
counted s w p c above units v h = record { count = h.count; base = h.base; job = h.job; given = h.given }

-- ---- of an end

same_ok : {A : Type 0} (x y : A) → ◌≡◌ {A = Result A DeskNo} (Ok x) (Ok y) → x ≡ y
same_ok x y h = cc

ended : {A : Type 0} {w : Workspace} {P : Type 0} {G : A → Workspace → Type 0} (r : Out A) (a : A) → Ends w P G r → r.0 ≡ Ok a → P × G a r.1
ended {A} {w} {P} {G} r a h e = elim h.it as (λ _. P × G a r.1) [
  | inl good ↦ (good.0, subst (λ (x : A). G x r.1) (same_ok good.1.0 a (sym good.1.1 ∙ e)) good.1.2)
  | inr bad ↦ absurd (bad.1 a e)
]

comes : {A : Type 0} {w : Workspace} {P : Type 0} {G : A → Workspace → Type 0} (r : Out A) → Ends w P G r → P → (a : A) × (r.0 ≡ Ok a) × G a r.1
comes {A} {w} {P} {G} r h p = elim h.it as (λ _. (a : A) × (r.0 ≡ Ok a) × G a r.1) [ inl good ↦ good.1 | inr bad ↦ absurd (bad.0 p) ]

-- of a call without a value
comes_unit : {w : Workspace} {P : Type 0} {G : Unit {0} → Workspace → Type 0} (r : Out (Unit {0})) → Ends w P G r → P → r.0 ≡ Ok tt
comes_unit r h p = let c = comes r h p in c.1

stays : {w : Workspace} {P : Type 0} {G : Unit {0} → Workspace → Type 0} (r : Out (Unit {0})) → Ends w P G r → r.0 ≢ Ok tt → IsAsked w r.1
stays {w} r h none = elim h.it as (λ _. IsAsked w r.1) [ inl good ↦ absurd (none good.1.1) | inr bad ↦ bad.2 ]

-- an end that no value comes of
lost : {A : Type 0} {w : Workspace} {G : A → Workspace → Type 0} (r : Out A) (a : A) (T : Type 0) → Ends w ⊥ G r → r.0 ≡ Ok a → T
lost r a T h e = absurd (ended r a h e).0

-- ---- refusals

size_small : (n : ℕ) → size_refusal n ≡ None → n ≤ 16777216
size_small n h = by_cases (ltb 16777216 n) (λ b. ◌≡◌ {A = Option FileNo} (cond b (Some file.TooBig) None) None → n ≤ 16777216) (λ _ e. absurd cc) (λ low e. ltb-false 16777216 n low) h

small_size : (n : ℕ) → n ≤ 16777216 → size_refusal n ≡ None
small_size n h = ap (λ (b : Bool). (let f : Option FileNo = cond b (Some file.TooBig) None in f)) (le-ltb 16777216 n h)

put_none : (k : Kind) (a : Option Kind) (n : ℕ) → put_refusal k a n ≡ None → (k ≢ kind.Dir) × (a ≡ Some kind.Dir) × (n ≤ 16777216)
put_none k None n h = absurd cc
put_none kind.Dir (Some a) n h = absurd cc
put_none kind.Absent (Some kind.Absent) n h = absurd cc
put_none kind.Absent (Some kind.File) n h = absurd cc
put_none kind.Absent (Some kind.Dir) n h = (λ e. cc, refl, size_small n h)
put_none kind.Absent (Some kind.Link) n h = absurd cc
put_none kind.File (Some kind.Link) n h = absurd cc
put_none kind.Link (Some kind.Absent) n h = absurd cc
put_none kind.Link (Some kind.File) n h = absurd cc
put_none kind.Link (Some kind.Link) n h = absurd cc
put_none kind.Link (Some kind.Dir) n h = (λ e. cc, refl, size_small n h)
put_none kind.File (Some kind.Absent) n h = absurd cc
put_none kind.File (Some kind.File) n h = absurd cc
put_none kind.File (Some kind.Dir) n h = (λ e. cc, refl, size_small n h)

none_put : (k : Kind) (a : Option Kind) (n : ℕ) → k ≢ kind.Dir → a ≡ Some kind.Dir → n ≤ 16777216 → put_refusal k a n ≡ None
none_put k None n not_dir e h = absurd cc
none_put k (Some kind.Absent) n not_dir e h = absurd cc
none_put k (Some kind.File) n not_dir e h = absurd cc
none_put k (Some kind.Link) n not_dir e h = absurd cc
none_put kind.Link (Some kind.Dir) n not_dir e h = small_size n h
none_put kind.Absent (Some kind.Dir) n not_dir e h = small_size n h
none_put kind.File (Some kind.Dir) n not_dir e h = small_size n h
none_put kind.Dir (Some kind.Dir) n not_dir e h = absurd (not_dir refl)

pub dir_none : (k : Kind) (a : Option Kind) → dir_refusal k a ≡ None → (k ≡ kind.Absent) × (a ≡ Some kind.Dir)
dir_none kind.File a h = absurd cc
dir_none kind.Dir a h = absurd cc
dir_none kind.Link a h = absurd cc
dir_none kind.Absent (Some kind.Link) h = absurd cc
dir_none kind.Absent None h = absurd cc
dir_none kind.Absent (Some kind.Absent) h = absurd cc
dir_none kind.Absent (Some kind.File) h = absurd cc
dir_none kind.Absent (Some kind.Dir) h = (refl, refl)

none_dir : (k : Kind) (a : Option Kind) → k ≡ kind.Absent → a ≡ Some kind.Dir → dir_refusal k a ≡ None
none_dir k a e f = ap (λ (x : Kind). dir_refusal x a) e ∙ ap (dir_refusal kind.Absent) f

dir_above : (t : Table) (q : Option (List ℕ)) → option_map (λ r. kind_of (get t r)) q ≡ Some kind.Dir → (dir : List ℕ) × (q ≡ Some dir) × (kind_of (get t dir) ≡ kind.Dir)
dir_above t None e = absurd cc
dir_above t (Some r) e = (r, refl, (let same : kind_of (get t r) ≡ kind.Dir = cc in same))

above_dir : (t : Table) (q : Option (List ℕ)) (dir : List ℕ) → q ≡ Some dir → kind_of (get t dir) ≡ kind.Dir → option_map (λ r. kind_of (get t r)) q ≡ Some kind.Dir
above_dir t q dir e h = ap (option_map (λ r. kind_of (get t r))) e ∙ ap (λ (k : Kind). Some k) h

-- ---- the tree behind a change

pub tree_alone : (s : State) (w v : Workspace) (p : List ℕ) (c : Option Node) (n : ℕ) → v.changes ≡ becomes p c None n w.changes → tree_seen s v ≡ changed (tree_seen s w) p c
tree_alone s w v p c n e = ap (λ (d : Changes). laid_over d s.tree) e ∙ laid_insert w.changes s.tree p c

pub tree_both : (s : State) (w v : Workspace) (p : List ℕ) (c : Option Node) (above : Option (List ℕ)) (dir : List ℕ) (n : ℕ) → above ≡ Some dir → v.changes ≡ becomes p c above n w.changes → tree_seen s v ≡ insert (changed (tree_seen s w) p c) dir (Dir n)
tree_both s w v p c above dir n up e =
    ap (λ (d : Changes). laid_over d s.tree) (e ∙ ap (λ (a : Option (List ℕ)). becomes p c a n w.changes) up)
    ∙ laid_insert (finite.insert w.changes p c) s.tree dir (Some (Dir n)) ∙ ap (λ (t : Table). insert t dir (Dir n)) (laid_insert w.changes s.tree p c)

absent_above : (k : Kind) (above : Option (List ℕ)) → k ≡ kind.Absent → stamped k above ≡ above
absent_above k above e = ap (λ (x : Kind). stamped x above) e

there_above : (k : Kind) (above : Option (List ℕ)) → k ≢ kind.Absent → stamped k above ≡ None
there_above kind.Absent above h = absurd (h refl)
there_above kind.File above h = refl
there_above kind.Dir above h = refl
there_above kind.Link above h = refl

-- ---- the laws

module _ (s : State) (w : Workspace) where
  abbrev t : Table
  t = tree_seen s w

  -- ---- put

  put_raw : (p bytes : List ℕ) → MayPut t p (length bytes) → put_refusal (kind_of (get t p)) (option_map (λ q. kind_of (get t q)) (parent_text p)) (length bytes) ≡ None
  put_raw p bytes (not_dir, (dir, up, is), small) = none_put (kind_of (get t p)) (option_map (λ q. kind_of (get t q)) (parent_text p)) (length bytes) not_dir (above_dir t (parent_text p) dir up is) small

  raw_put : (p bytes : List ℕ) → put_refusal (kind_of (get t p)) (option_map (λ q. kind_of (get t q)) (parent_text p)) (length bytes) ≡ None → MayPut t p (length bytes)
  raw_put p bytes free =
      let n = put_none (kind_of (get t p)) (option_map (λ q. kind_of (get t q)) (parent_text p)) (length bytes) free in
      (n.0, dir_above t (parent_text p) n.1, n.2)

  pub put_ok : NoLinks s w.changes → (p bytes : List ℕ) → ((put p bytes (snapshot s) w).0 ≡ Ok tt) ↔ (MayPut t p (length bytes) × HasFuel (length bytes) w)
  put_ok none p bytes = (
    λ e. (let r = (ended (put p bytes (snapshot s) w) tt (put_ends s w none p bytes) e).0 in (raw_put p bytes r.0, enough (length bytes) w.fuel r.1)),
    λ h. comes_unit (put p bytes (snapshot s) w) (put_ends s w none p bytes) (put_raw p bytes h.0, enough_back (length bytes) w.fuel h.1),
  )

  pub put_changed : NoLinks s w.changes → (p bytes : List ℕ) → (put p bytes (snapshot s) w).0 ≡ Ok tt → Changed s w p (Some (File bytes (next s w))) (stamped (kind_of (get t p)) (parent_text p)) (blocks (length bytes)) (put p bytes (snapshot s) w).1
  put_changed none p bytes e = (ended (put p bytes (snapshot s) w) tt (put_ends s w none p bytes) e).1

  pub put_new : NoLinks s w.changes → (p bytes dir : List ℕ) → (put p bytes (snapshot s) w).0 ≡ Ok tt → kind_of (get t p) ≡ kind.Absent → parent_text p ≡ Some dir
      → tree_seen s (put p bytes (snapshot s) w).1 ≡ insert (insert t p (File bytes (next_number w))) dir (Dir (next_number w))
  put_new none p bytes dir e absent up = tree_both s w (put p bytes (snapshot s) w).1 p (Some (File bytes (next s w))) (stamped (kind_of (get t p)) (parent_text p)) dir (next s w) (absent_above (kind_of (get t p)) (parent_text p) absent ∙ up) (put_changed none p bytes e).changes

  pub put_over : NoLinks s w.changes → (p bytes : List ℕ) → (put p bytes (snapshot s) w).0 ≡ Ok tt → kind_of (get t p) ≢ kind.Absent → tree_seen s (put p bytes (snapshot s) w).1 ≡ insert t p (File bytes (next_number w))
  put_over none p bytes e there = tree_alone s w (put p bytes (snapshot s) w).1 p (Some (File bytes (next s w))) (next s w)
      ((put_changed none p bytes e).changes ∙ ap (λ (a : Option (List ℕ)). becomes p (Some (File bytes (next s w))) a (next s w) w.changes) (there_above (kind_of (get t p)) (parent_text p) there))

  pub put_kept : (p bytes : List ℕ) → (put p bytes (snapshot s) w).0 ≢ Ok tt → IsAsked w (put p bytes (snapshot s) w).1
  put_kept p bytes bad = leads_or s w true p (IsAsked w (put p bytes (snapshot s) w).1)
      (λ q m e. stays (put p bytes (snapshot s) w) (put_there s w p q bytes m e) bad) (λ h. stays (put p bytes (snapshot s) w) (put_lost s w p bytes h) bad)

  -- wherever the path leads
  pub put_behind : (p bytes : List ℕ) → (put p bytes (snapshot s) w).0 ≡ Ok tt → (q : List ℕ) × (m : ℕ) × IsPut s w q bytes m tt (put p bytes (snapshot s) w).1
  put_behind p bytes e = leads_or s w true p ((q : List ℕ) × (m : ℕ) × IsPut s w q bytes m tt (put p bytes (snapshot s) w).1)
      (λ q m l. (q, m, (ended (put p bytes (snapshot s) w) tt (put_there s w p q bytes m l) e).1)) (λ h. lost (put p bytes (snapshot s) w) tt _ (put_lost s w p bytes h) e)

  pub put_cost : NoLinks s w.changes → (p bytes : List ℕ) → (put p bytes (snapshot s) w).0 ≡ Ok tt → IsPaid (length bytes) w (put p bytes (snapshot s) w).1 × IsCounted w (put p bytes (snapshot s) w).1
  put_cost none p bytes e = let c = put_changed none p bytes e in (paid (length bytes) w (put p bytes (snapshot s) w).1 c.paid, counted s w p _ _ _ (put p bytes (snapshot s) w).1 c)

  -- ---- place

  pub place_ok : NoLinks s w.changes → (p bytes : List ℕ) (stamp : ℕ) → ((place p bytes stamp (snapshot s) w).0 ≡ Ok tt) ↔ (MayPut t p (length bytes) × HasFuel (length bytes) w)
  place_ok none p bytes stamp = (
    λ e. (let r = (ended (place p bytes stamp (snapshot s) w) tt (place_ends s w none p bytes stamp) e).0 in (raw_put p bytes r.0, enough (length bytes) w.fuel r.1)),
    λ h. comes_unit (place p bytes stamp (snapshot s) w) (place_ends s w none p bytes stamp) (put_raw p bytes h.0, enough_back (length bytes) w.fuel h.1),
  )

  pub place_changed : NoLinks s w.changes → (p bytes : List ℕ) (stamp : ℕ) → (place p bytes stamp (snapshot s) w).0 ≡ Ok tt → Changed s w p (Some (File bytes stamp)) (parent_text p) (blocks (length bytes)) (place p bytes stamp (snapshot s) w).1
  place_changed none p bytes stamp e = (ended (place p bytes stamp (snapshot s) w) tt (place_ends s w none p bytes stamp) e).1

  pub place_tree : NoLinks s w.changes → (p bytes : List ℕ) (stamp : ℕ) (dir : List ℕ) → (place p bytes stamp (snapshot s) w).0 ≡ Ok tt → parent_text p ≡ Some dir
      → tree_seen s (place p bytes stamp (snapshot s) w).1 ≡ insert (insert t p (File bytes stamp)) dir (Dir (next_number w))
  place_tree none p bytes stamp dir e up = tree_both s w (place p bytes stamp (snapshot s) w).1 p (Some (File bytes stamp)) (parent_text p) dir (next s w) up (place_changed none p bytes stamp e).changes

  pub place_kept : (p bytes : List ℕ) (stamp : ℕ) → (place p bytes stamp (snapshot s) w).0 ≢ Ok tt → IsAsked w (place p bytes stamp (snapshot s) w).1
  place_kept p bytes stamp bad = leads_or s w false p (IsAsked w (place p bytes stamp (snapshot s) w).1)
      (λ q m e. stays (place p bytes stamp (snapshot s) w) (place_there s w p q bytes stamp m e) bad) (λ h. stays (place p bytes stamp (snapshot s) w) (place_lost s w p bytes stamp h) bad)

  pub place_behind : (p bytes : List ℕ) (stamp : ℕ) → (place p bytes stamp (snapshot s) w).0 ≡ Ok tt → (q : List ℕ) × (m : ℕ) × IsPlaced s w q bytes stamp m tt (place p bytes stamp (snapshot s) w).1
  place_behind p bytes stamp e = leads_or s w false p ((q : List ℕ) × (m : ℕ) × IsPlaced s w q bytes stamp m tt (place p bytes stamp (snapshot s) w).1)
      (λ q m l. (q, m, (ended (place p bytes stamp (snapshot s) w) tt (place_there s w p q bytes stamp m l) e).1)) (λ h. lost (place p bytes stamp (snapshot s) w) tt _ (place_lost s w p bytes stamp h) e)

  pub place_cost : NoLinks s w.changes → (p bytes : List ℕ) (stamp : ℕ) → (place p bytes stamp (snapshot s) w).0 ≡ Ok tt → IsPaid (length bytes) w (place p bytes stamp (snapshot s) w).1 × IsCounted w (place p bytes stamp (snapshot s) w).1
  place_cost none p bytes stamp e = let c = place_changed none p bytes stamp e in (paid (length bytes) w (place p bytes stamp (snapshot s) w).1 c.paid, counted s w p _ _ _ (place p bytes stamp (snapshot s) w).1 c)

  -- ---- make_dir

  make_raw : (p : List ℕ) → MayMake t p → dir_refusal (kind_of (get t p)) (option_map (λ q. kind_of (get t q)) (parent_text p)) ≡ None
  make_raw p (none, (dir, up, is)) = none_dir (kind_of (get t p)) (option_map (λ q. kind_of (get t q)) (parent_text p)) none (above_dir t (parent_text p) dir up is)

  raw_make : (p : List ℕ) → dir_refusal (kind_of (get t p)) (option_map (λ q. kind_of (get t q)) (parent_text p)) ≡ None → MayMake t p
  raw_make p free = let n = dir_none (kind_of (get t p)) (option_map (λ q. kind_of (get t q)) (parent_text p)) free in (n.0, dir_above t (parent_text p) n.1)

  pub make_ok : NoLinks s w.changes → (p : List ℕ) → ((make_dir p (snapshot s) w).0 ≡ Ok tt) ↔ (MayMake t p × HasFuel 0 w)
  make_ok none p = (
    λ e. (let r = (ended (make_dir p (snapshot s) w) tt (make_ends s w none p) e).0 in (raw_make p r.0, one w.fuel r.1)),
    λ h. comes_unit (make_dir p (snapshot s) w) (make_ends s w none p) (make_raw p h.0, one_back w.fuel h.1),
  )

  pub make_changed : NoLinks s w.changes → (p : List ℕ) → (make_dir p (snapshot s) w).0 ≡ Ok tt → Changed s w p (Some (Dir (next s w))) (parent_text p) 0 (make_dir p (snapshot s) w).1
  make_changed none p e = (ended (make_dir p (snapshot s) w) tt (make_ends s w none p) e).1

  pub make_tree : NoLinks s w.changes → (p dir : List ℕ) → (make_dir p (snapshot s) w).0 ≡ Ok tt → parent_text p ≡ Some dir
      → tree_seen s (make_dir p (snapshot s) w).1 ≡ insert (insert t p (Dir (next_number w))) dir (Dir (next_number w))
  make_tree none p dir e up = tree_both s w (make_dir p (snapshot s) w).1 p (Some (Dir (next s w))) (parent_text p) dir (next s w) up (make_changed none p e).changes

  pub make_kept : (p : List ℕ) → (make_dir p (snapshot s) w).0 ≢ Ok tt → IsAsked w (make_dir p (snapshot s) w).1
  make_kept p bad = leads_or s w false p (IsAsked w (make_dir p (snapshot s) w).1)
      (λ q m e. stays (make_dir p (snapshot s) w) (make_there s w p q m e) bad) (λ h. stays (make_dir p (snapshot s) w) (make_lost s w p h) bad)

  pub make_behind : (p : List ℕ) → (make_dir p (snapshot s) w).0 ≡ Ok tt → (q : List ℕ) × (m : ℕ) × IsMade s w q (Dir (next s w)) m tt (make_dir p (snapshot s) w).1
  make_behind p e = leads_or s w false p ((q : List ℕ) × (m : ℕ) × IsMade s w q (Dir (next s w)) m tt (make_dir p (snapshot s) w).1)
      (λ q m l. (q, m, (ended (make_dir p (snapshot s) w) tt (make_there s w p q m l) e).1)) (λ h. lost (make_dir p (snapshot s) w) tt _ (make_lost s w p h) e)

  pub make_cost : NoLinks s w.changes → (p : List ℕ) → (make_dir p (snapshot s) w).0 ≡ Ok tt → IsPaid 0 w (make_dir p (snapshot s) w).1 × IsCounted w (make_dir p (snapshot s) w).1
  make_cost none p e = let c = make_changed none p e in (paid_one w (make_dir p (snapshot s) w).1 c.paid, counted s w p _ _ _ (make_dir p (snapshot s) w).1 c)

  -- ---- make_link, where no directory above the path is a link

  abbrev pub Plain : List ℕ → Type 0
  Plain p = led_at s w false p ≡ plainly s w.changes p

  pub link_ok : (p text : List ℕ) → Plain p → ((make_link p text (snapshot s) w).0 ≡ Ok tt) ↔ (MayMake t p × HasFuel (length text) w)
  link_ok p text plain =
      let e = link_there s w p p text 0 plain in (
        λ is. (let r = (ended (make_link p text (snapshot s) w) tt e is).0 in let le : 1 + (blocks (length text) + 0) ≤ w.fuel = r.1 in (raw_make p r.0, enough (length text) w.fuel (omega arith))),
        λ h. comes_unit (make_link p text (snapshot s) w) e (make_raw p h.0, (let le : 1 + blocks (length text) ≤ w.fuel = enough_back (length text) w.fuel h.1 in omega arith)),
      )

  link_made : (p text : List ℕ) → Plain p → (make_link p text (snapshot s) w).0 ≡ Ok tt → IsMade s w p (Link text (next s w)) (blocks (length text) + 0) tt (make_link p text (snapshot s) w).1
  link_made p text plain e = (ended (make_link p text (snapshot s) w) tt (link_there s w p p text 0 plain) e).1

  pub link_tree : (p text dir : List ℕ) → Plain p → (make_link p text (snapshot s) w).0 ≡ Ok tt → parent_text p ≡ Some dir
      → tree_seen s (make_link p text (snapshot s) w).1 ≡ insert (insert t p (Link text (next_number w))) dir (Dir (next_number w))
  link_tree p text dir plain e up = tree_both s w (make_link p text (snapshot s) w).1 p (Some (Link text (next s w))) (parent_text p) dir (next s w) up (link_made p text plain e).changes

  pub link_kept : (p text : List ℕ) → (make_link p text (snapshot s) w).0 ≢ Ok tt → IsAsked w (make_link p text (snapshot s) w).1
  link_kept p text bad = leads_or s w false p (IsAsked w (make_link p text (snapshot s) w).1)
      (λ q m e. stays (make_link p text (snapshot s) w) (link_there s w p q text m e) bad) (λ h. stays (make_link p text (snapshot s) w) (link_lost s w p text h) bad)

  pub link_cost : (p text : List ℕ) → Plain p → (make_link p text (snapshot s) w).0 ≡ Ok tt → IsPaid (length text) w (make_link p text (snapshot s) w).1 × IsCounted w (make_link p text (snapshot s) w).1
  link_cost p text plain e = let c = link_made p text plain e in (paid (length text) w (make_link p text (snapshot s) w).1 (omega (arith, c.paid)), counted s w p _ _ _ (make_link p text (snapshot s) w).1 c)

  -- ---- remove

  no_names : (o : Option (List (List ℕ))) → names_refusal o ≡ None → unwrap_or o [] ≡ []
  no_names None e = refl
  no_names (Some []) e = refl
  no_names (Some (n ∷ ns)) e = absurd cc

  pub bare_by : (p : List ℕ) (m : ℕ) (k : Kind) → AreWhole s w → RemovableAt s w p m → kind_of (get t p) ≡ k → (q : List ℕ) → parent_text q ≡ Some p → get t q ≡ None
  bare_by p m kind.Absent whole h is = absurd (h.1 is)
  bare_by p m kind.File (low, high, paths) h is = bare_but_dir t p high (λ dir. (let z : kind.File ≡ kind.Dir = sym is ∙ dir in cc))
  bare_by p m kind.Link (low, high, paths) h is = bare_but_dir t p high (λ dir. (let z : kind.Link ≡ kind.Dir = sym is ∙ dir in cc))
  bare_by p m kind.Dir (low, high, paths) h is =
      let none : with_own w.changes p (unwrap_or (names_of s.tree p) []) ≡ [] = ap (λ (o : Option (List (List ℕ))). unwrap_or o []) (sym (own_names s w.changes p is)) ∙ no_names (names_seen s w.changes p) (h.2 is) in
      no_child s.tree w.changes p low high paths none

  none_below : (p : List ℕ) → ((q : List ℕ) → parent_text q ≡ Some p → get t q ≡ None) → [] ≡ children_of t p
  none_below p bare = children_none t p (λ k. by_case k (is_parent p k) refl)
    where
      by_case : (k : List ℕ) (b : Bool) → is_parent p k ≡ b → false ≡ (b && contains_key t k)
      by_case k true e = sym (ap (λ (o : Option Node). is_some o) (bare k (parent_said (parent_text k) p e)))
      by_case k false e = refl

  bare_names : (p : List ℕ) → AreWhole s w → ((q : List ℕ) → parent_text q ≡ Some p → get t q ≡ None) → kind_of (get t p) ≡ kind.Dir → names_refusal (names_seen s w.changes p) ≡ None
  bare_names p (low, high, paths) bare dir =
      ap names_refusal (names_true s w.changes p low high paths) ∙ ap (λ (k : Kind). names_refusal (in_dir k (filter_map last_of (children_of t p)))) dir
      ∙ ap (λ (ks : List (List ℕ)). names_refusal (Some (filter_map last_of ks))) (sym (none_below p bare))

  pub remove_ok : NoLinks s w.changes → (p : List ℕ) → AreWhole s w → ((remove p (snapshot s) w).0 ≡ Ok tt) ↔ (MayRemove t p × HasFuel 0 w)
  remove_ok none p whole = (
    λ e. (let r = (ended (remove p (snapshot s) w) tt (remove_ends s w none p) e).0 in ((r.1, r.0, bare_by p 0 (kind_of (get t p)) whole r refl), one w.fuel r.3)),
    λ h. comes_unit (remove p (snapshot s) w) (remove_ends s w none p) (h.0.1, h.0.0, bare_names p whole h.0.2, one_back w.fuel h.1),
  )

  remove_taken : (p : List ℕ) → Plain p → (remove p (snapshot s) w).0 ≡ Ok tt → IsTaken s w p tt (remove p (snapshot s) w).1
  remove_taken p plain e = (ended (remove p (snapshot s) w) tt (remove_plain s w p plain) e).1

  pub gone_tree : (p dir : List ℕ) → Plain p → (remove p (snapshot s) w).0 ≡ Ok tt → parent_text p ≡ Some dir
      → tree_seen s (remove p (snapshot s) w).1 ≡ insert (finite.remove t p) dir (Dir (next_number w))
  gone_tree p dir plain e up = let r = remove_taken p plain e in tree_both s w (remove p (snapshot s) w).1 p None (Some r.0) dir (next s w) (sym r.1 ∙ up) r.2.changes

  pub remove_tree : NoLinks s w.changes → (p dir : List ℕ) → (remove p (snapshot s) w).0 ≡ Ok tt → parent_text p ≡ Some dir
      → tree_seen s (remove p (snapshot s) w).1 ≡ insert (finite.remove t p) dir (Dir (next_number w))
  remove_tree none p dir = gone_tree p dir (led_plain s w.changes none false p)

  pub remove_kept : (p : List ℕ) → (remove p (snapshot s) w).0 ≢ Ok tt → IsAsked w (remove p (snapshot s) w).1
  remove_kept p bad = leads_or s w false p (IsAsked w (remove p (snapshot s) w).1)
      (λ q m e. stays (remove p (snapshot s) w) (remove_there s w p q m e) bad) (λ h. stays (remove p (snapshot s) w) (remove_lost s w p h) bad)

  pub remove_behind : (p : List ℕ) → (remove p (snapshot s) w).0 ≡ Ok tt → (q : List ℕ) × (m : ℕ) × IsTakenAt s w q m tt (remove p (snapshot s) w).1
  remove_behind p e = leads_or s w false p ((q : List ℕ) × (m : ℕ) × IsTakenAt s w q m tt (remove p (snapshot s) w).1)
      (λ q m l. (q, m, (ended (remove p (snapshot s) w) tt (remove_there s w p q m l) e).1)) (λ h. lost (remove p (snapshot s) w) tt _ (remove_lost s w p h) e)

  pub remove_cost : NoLinks s w.changes → (p : List ℕ) → (remove p (snapshot s) w).0 ≡ Ok tt → IsPaid 0 w (remove p (snapshot s) w).1 × IsCounted w (remove p (snapshot s) w).1
  remove_cost none p e = let r = remove_taken p (led_plain s w.changes none false p) e in (paid_one w (remove p (snapshot s) w).1 r.2.paid, counted s w p _ _ _ (remove p (snapshot s) w).1 r.2)

  -- ---- touch

  pub touch_ok : NoLinks s w.changes → (p : List ℕ) → ((touch p (snapshot s) w).0 ≡ Ok tt) ↔ (MayTouch t p × HasFuel 0 w)
  touch_ok none p = (
    λ e. (let r = (ended (touch p (snapshot s) w) tt (touch_ends s w none p) e).0 in (r.0, one w.fuel r.1)),
    λ h. comes_unit (touch p (snapshot s) w) (touch_ends s w none p) (h.0, one_back w.fuel h.1),
  )

  pub touch_made : NoLinks s w.changes → (p : List ℕ) → (touch p (snapshot s) w).0 ≡ Ok tt → IsTouched s w p tt (touch p (snapshot s) w).1
  touch_made none p e = (ended (touch p (snapshot s) w) tt (touch_ends s w none p) e).1

  pub touch_tree : NoLinks s w.changes → (p : List ℕ) (node : Node) → (touch p (snapshot s) w).0 ≡ Ok tt → get t p ≡ Some node → tree_seen s (touch p (snapshot s) w).1 ≡ insert t p (with_stamp (next_number w) node)
  touch_tree none p node e is =
      let r = touch_made none p e in
      let same : r.0 ≡ node = (let z : Some r.0 ≡ Some node = sym r.1 ∙ is in cc) in
      tree_alone s w (touch p (snapshot s) w).1 p (Some (with_stamp (next s w) r.0)) (next s w) r.2.changes ∙ ap (λ (n : Node). insert t p (with_stamp (next s w) n)) same

  pub touch_kept : (p : List ℕ) → (touch p (snapshot s) w).0 ≢ Ok tt → IsAsked w (touch p (snapshot s) w).1
  touch_kept p bad = leads_or s w true p (IsAsked w (touch p (snapshot s) w).1)
      (λ q m e. stays (touch p (snapshot s) w) (touch_there s w p q m e) bad) (λ h. stays (touch p (snapshot s) w) (touch_lost s w p h) bad)

  pub touch_behind : (p : List ℕ) → (touch p (snapshot s) w).0 ≡ Ok tt → (q : List ℕ) × (m : ℕ) × IsTouchedAt s w q m tt (touch p (snapshot s) w).1
  touch_behind p e = leads_or s w true p ((q : List ℕ) × (m : ℕ) × IsTouchedAt s w q m tt (touch p (snapshot s) w).1)
      (λ q m l. (q, m, (ended (touch p (snapshot s) w) tt (touch_there s w p q m l) e).1)) (λ h. lost (touch p (snapshot s) w) tt _ (touch_lost s w p h) e)

  pub touch_cost : NoLinks s w.changes → (p : List ℕ) → (touch p (snapshot s) w).0 ≡ Ok tt → IsPaid 0 w (touch p (snapshot s) w).1 × IsCounted w (touch p (snapshot s) w).1
  touch_cost none p e = let r = touch_made none p e in (paid_one w (touch p (snapshot s) w).1 r.2.paid, counted s w p _ _ _ (touch p (snapshot s) w).1 r.2)

  -- ---- reading

  pub kind_true : NoLinks s w.changes → (p : List ℕ) → HasFuel 0 w → (kind_at p (snapshot s) w).0 ≡ Ok (kind_of (get t p))
  kind_true none p h = let c = comes (kind_at p (snapshot s) w) (kind_ends s w none p) (one_back w.fuel h) in c.1 ∙ ap (λ (k : Kind). (let r : Result Kind DeskNo = Ok k in r)) c.2.0

  pub kind_says : NoLinks s w.changes → (p : List ℕ) (k : Kind) → (kind_at p (snapshot s) w).0 ≡ Ok k → k ≡ kind_of (get t p)
  kind_says none p k e = let c = ended (kind_at p (snapshot s) w) k (kind_ends s w none p) e in c.1.0

  pub kind_cost : NoLinks s w.changes → (p : List ℕ) (k : Kind) → (kind_at p (snapshot s) w).0 ≡ Ok k → HasFuel 0 w × IsPaid 0 w (kind_at p (snapshot s) w).1 × IsAsked w (kind_at p (snapshot s) w).1
  kind_cost none p k e = let c = ended (kind_at p (snapshot s) w) k (kind_ends s w none p) e in (one w.fuel c.0, paid_one w (kind_at p (snapshot s) w).1 c.1.1, c.1.2)

  size_is : (o : Option (List ℕ)) → size_of o ≡ length (unwrap_or o [])
  size_is None = refl
  size_is (Some bytes) = refl

  -- where no directory above the path is a link
  pub link_true : (p : List ℕ) → Plain p → HasFuel (length (unwrap_or (link_of (get t p)) [])) w → (link_at p (snapshot s) w).0 ≡ Ok (link_of (get t p))
  link_true p plain h =
      let n = subst (λ (m : ℕ). m + 256 ≤ w.fuel * 256) (sym (size_is (link_of (get t p)))) h in
      let c = comes (link_at p (snapshot s) w) (link_told s w p plain) (enough_back (size_of (link_of (get t p))) w.fuel n) in
      c.1 ∙ ap (λ (k : Option (List ℕ)). (let r : Result (Option (List ℕ)) DeskNo = Ok k in r)) c.2.0

  pub text_says : (p : List ℕ) → Plain p → (text : Option (List ℕ)) → (link_at p (snapshot s) w).0 ≡ Ok text → (text ≡ link_of (get t p)) × IsAsked w (link_at p (snapshot s) w).1
  text_says p plain text e = let c = ended (link_at p (snapshot s) w) text (link_told s w p plain) e in (c.1.0, c.1.2)

  pub text_cost : (p : List ℕ) → Plain p → (text : Option (List ℕ)) → (link_at p (snapshot s) w).0 ≡ Ok text → HasFuel (length (unwrap_or text [])) w × IsPaid (length (unwrap_or text [])) w (link_at p (snapshot s) w).1 × IsAsked w (link_at p (snapshot s) w).1
  text_cost p plain text e =
      let c = ended (link_at p (snapshot s) w) text (link_told s w p plain) e in
      let n = size_of (link_of (get t p)) in
      subst (λ (m : ℕ). HasFuel m w × IsPaid m w (link_at p (snapshot s) w).1 × IsAsked w (link_at p (snapshot s) w).1) (ap size_of (sym c.1.0) ∙ size_is text) (enough n w.fuel c.0, paid n w (link_at p (snapshot s) w).1 c.1.1, c.1.2)

  pub link_says : NoLinks s w.changes → (p : List ℕ) (text : Option (List ℕ)) → (link_at p (snapshot s) w).0 ≡ Ok text → text ≡ None
  link_says none p text e = (text_says p (led_plain s w.changes none false p) text e).0 ∙ no_text s w.changes (get t p) (none p)

  pub link_said_cost : NoLinks s w.changes → (p : List ℕ) (text : Option (List ℕ)) → (link_at p (snapshot s) w).0 ≡ Ok text → IsAsked w (link_at p (snapshot s) w).1
  link_said_cost none p text e = (text_says p (led_plain s w.changes none false p) text e).1

  pub stamp_true : NoLinks s w.changes → (p : List ℕ) → HasFuel 0 w → (stamp_at p (snapshot s) w).0 ≡ Ok (stamp_of (get t p))
  stamp_true none p h = let c = comes (stamp_at p (snapshot s) w) (stamp_ends s w none p) (one_back w.fuel h) in c.1 ∙ ap (λ (k : Option ℕ). (let r : Result (Option ℕ) DeskNo = Ok k in r)) c.2.0

  pub stamp_says : NoLinks s w.changes → (p : List ℕ) (k : Option ℕ) → (stamp_at p (snapshot s) w).0 ≡ Ok k → k ≡ stamp_of (get t p)
  stamp_says none p k e = let c = ended (stamp_at p (snapshot s) w) k (stamp_ends s w none p) e in c.1.0

  pub stamp_cost : NoLinks s w.changes → (p : List ℕ) (k : Option ℕ) → (stamp_at p (snapshot s) w).0 ≡ Ok k → HasFuel 0 w × IsPaid 0 w (stamp_at p (snapshot s) w).1 × IsAsked w (stamp_at p (snapshot s) w).1
  stamp_cost none p k e = let c = ended (stamp_at p (snapshot s) w) k (stamp_ends s w none p) e in (one w.fuel c.0, paid_one w (stamp_at p (snapshot s) w).1 c.1.1, c.1.2)

  pub content_true : NoLinks s w.changes → (p : List ℕ) → HasFuel (length (unwrap_or (content_of (get t p)) [])) w → (content p (snapshot s) w).0 ≡ Ok (content_of (get t p))
  content_true none p h =
      let n = subst (λ (m : ℕ). m + 256 ≤ w.fuel * 256) (sym (size_is (content_of (get t p)))) h in
      let c = comes (content p (snapshot s) w) (content_ends s w none p) (enough_back (size_of (content_of (get t p))) w.fuel n) in
      c.1 ∙ ap (λ (k : Option (List ℕ)). (let r : Result (Option (List ℕ)) DeskNo = Ok k in r)) c.2.0

  pub content_says : NoLinks s w.changes → (p : List ℕ) (body : Option (List ℕ)) → (content p (snapshot s) w).0 ≡ Ok body → body ≡ content_of (get t p)
  content_says none p body e = let c = ended (content p (snapshot s) w) body (content_ends s w none p) e in c.1.0

  pub content_cost : NoLinks s w.changes → (p : List ℕ) (body : Option (List ℕ)) → (content p (snapshot s) w).0 ≡ Ok body → HasFuel (length (unwrap_or body [])) w × IsPaid (length (unwrap_or body [])) w (content p (snapshot s) w).1 × IsAsked w (content p (snapshot s) w).1
  content_cost none p body e =
      let c = ended (content p (snapshot s) w) body (content_ends s w none p) e in
      let n = size_of (content_of (get t p)) in
      subst (λ (m : ℕ). HasFuel m w × IsPaid m w (content p (snapshot s) w).1 × IsAsked w (content p (snapshot s) w).1) (ap size_of (sym c.1.0) ∙ size_is body) (enough n w.fuel c.0, paid n w (content p (snapshot s) w).1 c.1.1, c.1.2)

  list_size : (o : Option (List (List ℕ))) → names_size o ≡ sum (map length (unwrap_or o []))
  list_size None = refl
  list_size (Some ns) = refl

  pub names_told : NoLinks s w.changes → (p : List ℕ) → AreWhole s w → HasFuel (sum (map length (unwrap_or (names_of t p) []))) w → (names p (snapshot s) w).0 ≡ Ok (names_of t p)
  names_told none p (low, high, paths) h =
      let same = names_true s w.changes p low high paths in
      let n = subst (λ (m : ℕ). m + 256 ≤ w.fuel * 256) (sym (ap names_size same ∙ list_size (names_of t p))) h in
      let c = comes (names p (snapshot s) w) (names_ends s w none p) (enough_back (names_size (names_seen s w.changes p)) w.fuel n) in
      c.1 ∙ ap (λ (k : Option (List (List ℕ))). (let r : Result (Option (List (List ℕ))) DeskNo = Ok k in r)) (c.2.0 ∙ same)

  pub names_said : (p : List ℕ) → led_at s w true p ≡ plainly s w.changes p → AreWhole s w → (ns : Option (List (List ℕ))) → (names p (snapshot s) w).0 ≡ Ok ns → ns ≡ names_of t p
  names_said p plain (low, high, paths) ns e = let c = ended (names p (snapshot s) w) ns (names_plain s w p plain) e in c.1.0 ∙ names_true s w.changes p low high paths

  pub names_cost : NoLinks s w.changes → (p : List ℕ) (ns : Option (List (List ℕ))) → (names p (snapshot s) w).0 ≡ Ok ns → HasFuel (sum (map length (unwrap_or ns []))) w × IsPaid (sum (map length (unwrap_or ns []))) w (names p (snapshot s) w).1 × IsAsked w (names p (snapshot s) w).1
  names_cost none p ns e =
      let c = ended (names p (snapshot s) w) ns (names_ends s w none p) e in
      let n = names_size (names_seen s w.changes p) in
      subst (λ (m : ℕ). HasFuel m w × IsPaid m w (names p (snapshot s) w).1 × IsAsked w (names p (snapshot s) w).1) (ap names_size (sym c.1.0) ∙ list_size ns) (enough n w.fuel c.0, paid n w (names p (snapshot s) w).1 c.1.1, c.1.2)

  pub outcome_told : (j : ℕ) → HasFuel 0 w → (outcome j (snapshot s) w).0 ≡ Ok (slice_get s.outcomes j)
  outcome_told j h = let c = comes (outcome j (snapshot s) w) (outcome_ends s w j) (one_back w.fuel h) in c.1 ∙ ap (λ (k : Option Outcome). (let r : Result (Option Outcome) DeskNo = Ok k in r)) c.2.0

  pub outcome_cost : (j : ℕ) (k : Option Outcome) → (outcome j (snapshot s) w).0 ≡ Ok k → HasFuel 0 w × IsPaid 0 w (outcome j (snapshot s) w).1 × IsAsked w (outcome j (snapshot s) w).1
  outcome_cost j k e = let c = ended (outcome j (snapshot s) w) k (outcome_ends s w j) e in (one w.fuel c.0, paid_one w (outcome j (snapshot s) w).1 c.1.1, c.1.2)

  -- ---- spend

  pub spend_ok : (n : ℕ) → ((spend n (snapshot s) w).0 ≡ Ok tt) ↔ (n ≤ w.fuel)
  unfolding spend
  spend_ok n = by_cases (ltb w.fuel n) (λ b. ltb w.fuel n ≡ b → (((let r : Out (Unit {0}) = cond b (Err no.Spent, w) (Ok tt, record w { fuel = w.fuel - n }) in r).0 ≡ Ok tt) ↔ (n ≤ w.fuel)))
      (λ low _. (λ e. absurd cc, λ le. absurd (let lt : w.fuel < n = ltb-true w.fuel n low in omega arith)))
      (λ high _. (λ e. ltb-false w.fuel n high, λ le. refl)) refl

  pub spend_left : (n : ℕ) → n ≤ w.fuel → (spend n (snapshot s) w).1 ≡ record w { fuel = w.fuel - n }
  unfolding spend
  spend_left n le = ap (λ (b : Bool). (let r : Out (Unit {0}) = cond b (Err no.Spent, w) (Ok tt, record w { fuel = w.fuel - n }) in r).1) (le-ltb w.fuel n le)
