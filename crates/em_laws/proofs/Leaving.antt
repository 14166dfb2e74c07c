-- The tree that a file utility leaves, as an equation, where it reports no fault.
use Rattle.std.proofs.Common.{◌≡◌, ◌≢◌, ℕ, ◌+◌, Bool, true, List, [], Option, Some, Result, Ok, Err, refl, sym, ap, subst, ◌∙◌}
use Rattle.std.specs.FinMap as finite
use Rattle.std.specs.FinMap.{get, insert}
use Rattle.em_path.specs.Paths.{parent_text}
use Rattle.em_tree.specs.declared.node.Kind.{Kind}
use Rattle.em_tree.specs.declared.node.Kind.TheVariants as kind
use Rattle.em_tree.specs.declared.node.Node.{Node}
use Rattle.em_tree.specs.declared.node.Node.TheVariants.{File, Dir, Link}
use Rattle.em_tree.specs.declared.state.State.{State}
use Rattle.em_tree.specs.Trees.{Table, kind_of, stamp_of, content_of}
use Rattle.em_view.specs.declared.no.DeskNo.{DeskNo}
use Rattle.em_view.specs.declared.done.Done.{Done}
use Rattle.em_view.specs.Actions.{Workspace, snapshot, Action, go_on, ◌>>=◌}
use Rattle.em_view.specs.Rows.{kind_at, link_at, stamp_at, content, put, place, remove, touch}
use Rattle.em_view.specs.Steps.{Steps, and_then, below}
use Rattle.em_view.specs.Steps as steps
use Rattle.em_utility.specs.declared.operand.OperandNo.{OperandNo}
use Rattle.em_utility.specs.Operands.{refused, at}
use Rattle.em_fileutil.specs.Spots.{there}
use Rattle.em_fileutil.specs.Copying.{copy_file, move_file}
use Rattle.em_fileutil.specs.Making.{remove_directory_by, remove_other_directory, remove_directory_past, remove_directory, touch_operand}
use Rattle.em_fileutil.specs.Making as making
use Rattle.em_laws.specs.Nodes.{tree_seen}
use Rattle.em_laws.specs.Calls.{next_number, IsAsked, with_stamp}
use Rattle.em_laws.specs.Files.{copied, moved, touched, unmade}
use Rattle.em_laws.proofs.Expanding.{NoLinks}
use Rattle.em_laws.proofs.Calling.{next}
use Rattle.em_laws.proofs.Going.{Operand, becomes_plain}
use Rattle.em_laws.proofs.Filing.{operand, told_ok, there_ok}
use Rattle.em_laws.proofs.Allowing.{put_new, put_over, place_changed, place_tree, place_cost, remove_tree as removed_tree, touch_tree, kind_says, kind_cost, link_says, link_said_cost, stamp_says, stamp_cost, content_says, content_cost}
use Rattle.em_laws.proofs.Numbering.{rises}

abbrev pub Ran : Type 0 → Type 0
Ran A = Result (A × Done) (OperandNo × Done) × Workspace

module _ (s : State) where
  -- ---- what a step that ended well has done

  then_on : {A B : Type 0} (r : Result (A × Done) (OperandNo × Done)) (v : Workspace) (k : A → Steps Done OperandNo B) (b : B × Done) → (go_on r v (λ z. k z.0 z.1) (snapshot s)).0 ≡ Ok b
      → (z : A × Done) × (r ≡ Ok z) × ◌≡◌ {A = Ran B} (go_on r v (λ z. k z.0 z.1) (snapshot s)) (k z.0 z.1 (snapshot s) v)
  then_on (Ok z) v k b e = (z, refl, refl)
  then_on (Err x) v k b e = absurd cc

  pub then_ok : {A B : Type 0} (m : Steps Done OperandNo A) (k : A → Steps Done OperandNo B) (x : Done) (w : Workspace) (b : B × Done) → (and_then m k x (snapshot s) w).0 ≡ Ok b
      → (z : A × Done) × ((m x (snapshot s) w).0 ≡ Ok z) × ◌≡◌ {A = Ran B} (and_then m k x (snapshot s) w) (k z.0 z.1 (snapshot s) (m x (snapshot s) w).1)
  unfolding and_then ◌>>=◌
  then_ok m k x w b e = then_on (m x (snapshot s) w).0 (m x (snapshot s) w).1 k b e

  pub at_ok : {A : Type 0} (name : List ℕ) (m : Action DeskNo A) (x : Done) (w : Workspace) (r : A × Done) → (at name m x (snapshot s) w).0 ≡ Ok r → (m (snapshot s) w).0 ≡ Ok r.0
  unfolding at below
  at_ok name m x w r e = told_ok s (refused name) x (m (snapshot s) w).0 r e

  pub at_left : {A : Type 0} (name : List ℕ) (m : Action DeskNo A) (x : Done) (w : Workspace) → (at name m x (snapshot s) w).1 ≡ (m (snapshot s) w).1
  unfolding at below
  at_left name m x w = refl

  there_well : {A : Type 0} (o : Operand) (m : Action DeskNo (Option A)) (x : Done) (w : Workspace) (r : A × Done) → (there o m x (snapshot s) w).0 ≡ Ok r → (m (snapshot s) w).0 ≡ Ok (Some r.0)
  unfolding there
  there_well o m x w r e = there_ok o x (m (snapshot s) w).0 r e

  there_left : {A : Type 0} (o : Operand) (m : Action DeskNo (Option A)) (x : Done) (w : Workspace) → (there o m x (snapshot s) w).1 ≡ (m (snapshot s) w).1
  unfolding there
  there_left o m x w = refl

  pub same_tree : (w v : Workspace) → IsAsked w v → tree_seen s v ≡ tree_seen s w
  same_tree w v e = ap (tree_seen s) e

  still_none : (w v : Workspace) → NoLinks s w.changes → IsAsked w v → NoLinks s v.changes
  still_none w v none e = subst (λ (u : Workspace). NoLinks s u.changes) (sym e) none

  pub same_next : (w v : Workspace) → IsAsked w v → next_number v ≡ next_number w
  same_next w v e = ap next_number e

  -- ---- cp

  module _ (w : Workspace) (none : NoLinks s w.changes) (d : Done) (from to p q : List ℕ) (r : Unit {0} × Done) (e : (copied s w d from to p q).0 ≡ Ok r) where
    -- the bytes, and the workspace in which they are put
    record Copy : Type 0 where
      bytes : List ℕ
      had : content_of (get (tree_seen s w) p) ≡ Some bytes
      mid : Workspace
      asked : IsAsked w mid
      done : (put q bytes (snapshot s) mid).0 ≡ Ok tt
      left : (copied s w d from to p q).1 ≡ (put q bytes (snapshot s) mid).1

    copy_done : Copy
    unfolding copy_file
    copy_done =
        let a = operand from p in
        let b = operand to q in
        let k = λ (bytes : List ℕ). at b.name (put b.path bytes) in
        let one = then_ok (there a (content p)) k d w r e in
        let z = one.0 in
        let mid = (content p (snapshot s) w).1 in
        let read = there_well a (content p) d w z one.1 in
        let here = ap (λ (u : Workspace). k z.0 z.1 (snapshot s) u) (there_left a (content p) d w) in
        let whole = one.2 ∙ here in
        let put_ok = at_ok b.name (put q z.0) z.1 mid r (sym (ap (λ (o : Ran (Unit {0})). o.0) whole) ∙ e) in
        record {
          bytes = z.0;
          had = sym (content_says s w none p (Some z.0) read);
          mid = mid;
          asked = (content_cost s w none p (Some z.0) read).2;
          done = put_ok;
          left = ap (λ (o : Ran (Unit {0})). o.1) whole ∙ at_left b.name (put q z.0) z.1 mid;
        }

    same_bytes : (a b : List ℕ) (o : Option (List ℕ)) → o ≡ Some a → o ≡ Some b → a ≡ b
    same_bytes a b o f g = let z : Some a ≡ Some b = sym f ∙ g in cc

    pub cp_new : (bytes dir : List ℕ) → content_of (get (tree_seen s w) p) ≡ Some bytes → kind_of (get (tree_seen s w) q) ≡ kind.Absent → parent_text q ≡ Some dir
        → tree_seen s (copied s w d from to p q).1 ≡ insert (insert (tree_seen s w) q (File bytes (next_number w))) dir (Dir (next_number w))
    cp_new bytes dir had absent up =
        let c = copy_done in
        let t = same_tree w c.mid c.asked in
        ap (tree_seen s) c.left ∙ put_new s c.mid (still_none w c.mid none c.asked) q c.bytes dir c.done (ap (λ (u : Table). kind_of (get u q)) t ∙ absent) up
        ∙ ap (λ (n : ℕ). insert (insert (tree_seen s c.mid) q (File c.bytes n)) dir (Dir n)) (same_next w c.mid c.asked)
        ∙ ap (λ (u : Table). insert (insert u q (File c.bytes (next_number w))) dir (Dir (next_number w))) t
        ∙ ap (λ (b : List ℕ). insert (insert (tree_seen s w) q (File b (next_number w))) dir (Dir (next_number w))) (same_bytes c.bytes bytes (content_of (get (tree_seen s w) p)) c.had had)

    pub cp_over : (bytes : List ℕ) → content_of (get (tree_seen s w) p) ≡ Some bytes → kind_of (get (tree_seen s w) q) ≢ kind.Absent
        → tree_seen s (copied s w d from to p q).1 ≡ insert (tree_seen s w) q (File bytes (next_number w))
    cp_over bytes had some =
        let c = copy_done in
        let t = same_tree w c.mid c.asked in
        ap (tree_seen s) c.left ∙ put_over s c.mid (still_none w c.mid none c.asked) q c.bytes c.done (λ absent. some (ap (λ (u : Table). kind_of (get u q)) (sym t) ∙ absent))
        ∙ ap (λ (n : ℕ). insert (tree_seen s c.mid) q (File c.bytes n)) (same_next w c.mid c.asked)
        ∙ ap (λ (u : Table). insert u q (File c.bytes (next_number w))) t
        ∙ ap (λ (b : List ℕ). insert (tree_seen s w) q (File b (next_number w))) (same_bytes c.bytes bytes (content_of (get (tree_seen s w) p)) c.had had)

  -- ---- mv

  module _ (w : Workspace) (none : NoLinks s w.changes) (d : Done) (from to p q : List ℕ) (r : Unit {0} × Done) (e : (moved s w d from to p q).0 ≡ Ok r) where
    record Move : Type 0 where
      bytes : List ℕ
      stamp : ℕ
      had : content_of (get (tree_seen s w) p) ≡ Some bytes
      was : stamp_of (get (tree_seen s w) p) ≡ Some stamp
      mid : Workspace
      same : tree_seen s mid ≡ tree_seen s w
      bare : NoLinks s mid.changes
      number : next_number mid ≡ next_number w
      done : (place q bytes stamp (snapshot s) mid).0 ≡ Ok tt
      gone : (remove p (snapshot s) (place q bytes stamp (snapshot s) mid).1).0 ≡ Ok tt
      left : (moved s w d from to p q).1 ≡ (remove p (snapshot s) (place q bytes stamp (snapshot s) mid).1).1

    move_done : Move
    unfolding move_file
    move_done =
        let a = operand from p in
        let b = operand to q in
        let last = λ (u : Unit {0}). at a.name (remove a.path) in
        let third = λ (bytes : List ℕ) (stamp : ℕ). and_then (at b.name (place b.path bytes stamp)) last in
        let second = λ (bytes : List ℕ). and_then (there a (stamp_at a.path)) (third bytes) in
        let one = then_ok (there a (content p)) second d w r e in
        let z = one.0 in
        let w1 = (content p (snapshot s) w).1 in
        let read = there_well a (content p) d w z one.1 in
        let asked1 = (content_cost s w none p (Some z.0) read).2 in
        let bare1 = still_none w w1 none asked1 in
        let whole1 = one.2 ∙ ap (λ (u : Workspace). second z.0 z.1 (snapshot s) u) (there_left a (content p) d w) in
        let two = then_ok (there a (stamp_at p)) (third z.0) z.1 w1 r (sym (ap (λ (o : Ran (Unit {0})). o.0) whole1) ∙ e) in
        let y = two.0 in
        let w2 = (stamp_at p (snapshot s) w1).1 in
        let told = there_well a (stamp_at p) z.1 w1 y two.1 in
        let asked2 = (stamp_cost s w1 bare1 p (Some y.0) told).2 in
        let whole2 = whole1 ∙ two.2 ∙ ap (λ (u : Workspace). third z.0 y.0 y.1 (snapshot s) u) (there_left a (stamp_at p) z.1 w1) in
        let three = then_ok (at b.name (place q z.0 y.0)) last y.1 w2 r (sym (ap (λ (o : Ran (Unit {0})). o.0) whole2) ∙ e) in
        let x = three.0 in
        let w3 = (place q z.0 y.0 (snapshot s) w2).1 in
        let placed = at_ok b.name (place q z.0 y.0) y.1 w2 x three.1 in
        let whole3 = whole2 ∙ three.2 ∙ ap (λ (u : Workspace). last x.0 x.1 (snapshot s) u) (at_left b.name (place q z.0 y.0) y.1 w2) in
        let gone = at_ok a.name (remove p) x.1 w3 r (sym (ap (λ (o : Ran (Unit {0})). o.0) whole3) ∙ e) in
        let t = same_tree w w1 asked1 in
        record {
          bytes = z.0;
          stamp = y.0;
          had = sym (content_says s w none p (Some z.0) read);
          was = sym (stamp_says s w1 bare1 p (Some y.0) told ∙ ap (λ (u : Table). stamp_of (get u p)) t);
          mid = w2;
          same = same_tree w1 w2 asked2 ∙ t;
          bare = still_none w1 w2 bare1 asked2;
          number = same_next w1 w2 asked2 ∙ same_next w w1 asked1;
          done = placed;
          gone = gone;
          left = ap (λ (o : Ran (Unit {0})). o.1) whole3 ∙ at_left a.name (remove p) x.1 w3;
        }

    pub mv_tree : (bytes : List ℕ) (stamp : ℕ) (old new : List ℕ) → get (tree_seen s w) p ≡ Some (File bytes stamp) → parent_text p ≡ Some old → parent_text q ≡ Some new
        → tree_seen s (moved s w d from to p q).1 ≡ insert (finite.remove (insert (insert (tree_seen s w) q (File bytes stamp)) new (Dir (next_number w))) p) old (Dir (next_number w + 1))
    mv_tree bytes stamp old new is up over =
        let m = move_done in
        let b : m.bytes ≡ bytes = (let z : Some m.bytes ≡ Some bytes = sym m.had ∙ ap content_of is in cc) in
        let n : m.stamp ≡ stamp = (let z : Some m.stamp ≡ Some stamp = sym m.was ∙ ap stamp_of is in cc) in
        let w3 = (place q m.bytes m.stamp (snapshot s) m.mid).1 in
        let placed = place_tree s m.mid m.bare q m.bytes m.stamp new m.done over in
        let bare3 = subst (NoLinks s) (sym (place_changed s m.mid m.bare q m.bytes m.stamp m.done).changes) (becomes_plain s m.mid.changes q (Some (File m.bytes m.stamp)) (parent_text q) (next s m.mid) (λ f. cc) m.bare) in
        let cost = place_cost s m.mid m.bare q m.bytes m.stamp m.done in
        let number = rises m.mid w3 cost.1 ∙ ap (λ (k : ℕ). k + 1) m.number in
        ap (tree_seen s) m.left ∙ removed_tree s w3 bare3 p old m.gone up
        ∙ ap (λ (k : ℕ). insert (finite.remove (tree_seen s w3) p) old (Dir k)) number
        ∙ ap (λ (u : Table). insert (finite.remove u p) old (Dir (next_number w + 1))) (
        placed
        ∙ ap (λ (k : ℕ). insert (insert (tree_seen s m.mid) q (File m.bytes m.stamp)) new (Dir k)) m.number
        ∙ ap (λ (u : Table). insert (insert u q (File m.bytes m.stamp)) new (Dir (next_number w))) m.same
        ∙ ap (λ (c : List ℕ). insert (insert (tree_seen s w) q (File c m.stamp)) new (Dir (next_number w))) b
        ∙ ap (λ (k : ℕ). insert (insert (tree_seen s w) q (File bytes k)) new (Dir (next_number w))) n)

  -- ---- the kind first

  record Looked (A : Type 0) (m : Kind → Steps Done OperandNo A) (d : Done) (p : List ℕ) (w : Workspace) (r : A × Done) (out : Ran A) : Type 0 where
    mid : Workspace
    done : Done
    asked : IsAsked w mid
    goes : ◌≡◌ {A = Ran A} out (m (kind_of (get (tree_seen s w) p)) done (snapshot s) mid)

  looked : {A : Type 0} (name p : List ℕ) (k : Kind → Steps Done OperandNo A) (d : Done) (w : Workspace) → NoLinks s w.changes → (r : A × Done) → (and_then (at name (kind_at p)) k d (snapshot s) w).0 ≡ Ok r → Looked A k d p w r (and_then (at name (kind_at p)) k d (snapshot s) w)
  looked {A} name p k d w none r e =
      let one = then_ok (at name (kind_at p)) k d w r e in
      let z = one.0 in
      let mid = (kind_at p (snapshot s) w).1 in
      let told = at_ok name (kind_at p) d w z one.1 in
      record {
        mid = mid;
        done = z.1;
        asked = (kind_cost s w none p z.0 told).2;
        goes = one.2 ∙ ap (λ (u : Workspace). k z.0 z.1 (snapshot s) u) (at_left name (kind_at p) d w) ∙ ap (λ (x : Kind). k x z.1 (snapshot s) mid) (kind_says s w none p z.0 told);
      }

  -- ---- touch

  module _ (w : Workspace) (none : NoLinks s w.changes) (d : Done) (create : Bool) (name p : List ℕ) (r : Unit {0} × Done) (e : (touched s w d create name p).0 ≡ Ok r) where
    touch_looked : Looked (Unit {0}) (making.touch_by create (operand name p)) d p w r (touched s w d create name p)
    unfolding touch_operand
    touch_looked = looked name p (making.touch_by create (operand name p)) d w none r e

    pub touch_left : (node : Node) → get (tree_seen s w) p ≡ Some node → tree_seen s (touched s w d create name p).1 ≡ insert (tree_seen s w) p (with_stamp (next_number w) node)
    touch_left node is =
        let l = touch_looked in
        let goes = l.goes ∙ ap (λ (n : Option Node). making.touch_by create (operand name p) (kind_of n) l.done (snapshot s) l.mid) is ∙ by_node node in
        let ok = at_ok name (touch p) l.done l.mid r (sym (ap (λ (o : Ran (Unit {0})). o.0) goes) ∙ e) in
        let t = same_tree w l.mid l.asked in
        ap (λ (o : Ran (Unit {0})). tree_seen s o.1) goes ∙ ap (tree_seen s) (at_left name (touch p) l.done l.mid)
        ∙ touch_tree s l.mid (still_none w l.mid none l.asked) p node ok (ap (λ (u : Table). get u p) t ∙ is)
        ∙ ap (λ (n : ℕ). insert (tree_seen s l.mid) p (with_stamp n node)) (same_next w l.mid l.asked)
        ∙ ap (λ (u : Table). insert u p (with_stamp (next_number w) node)) t
      where
        by_node : (n : Node) → ◌≡◌ {A = Ran (Unit {0})} (making.touch_by create (operand name p) (kind_of (Some n)) touch_looked.done (snapshot s) touch_looked.mid) (at name (touch p) touch_looked.done (snapshot s) touch_looked.mid)
        by_node (File bytes stamp) = refl
        by_node (Dir stamp) = refl
        by_node (Link text stamp) = refl

    pub touch_new : (dir : List ℕ) → create ≡ true → kind_of (get (tree_seen s w) p) ≡ kind.Absent → parent_text p ≡ Some dir
        → tree_seen s (touched s w d create name p).1 ≡ insert (insert (tree_seen s w) p (File [] (next_number w))) dir (Dir (next_number w))
    touch_new dir made absent up =
        let l = touch_looked in
        let goes = l.goes ∙ ap (λ (k : Kind). making.touch_by create (operand name p) k l.done (snapshot s) l.mid) absent ∙ ap (λ (b : Bool). making.touch_absent b (operand name p) l.done (snapshot s) l.mid) made in
        let ok = at_ok name (put p []) l.done l.mid r (sym (ap (λ (o : Ran (Unit {0})). o.0) goes) ∙ e) in
        let t = same_tree w l.mid l.asked in
        ap (λ (o : Ran (Unit {0})). tree_seen s o.1) goes ∙ ap (tree_seen s) (at_left name (put p []) l.done l.mid)
        ∙ put_new s l.mid (still_none w l.mid none l.asked) p [] dir ok (ap (λ (u : Table). kind_of (get u p)) t ∙ absent) up
        ∙ ap (λ (n : ℕ). insert (insert (tree_seen s l.mid) p (File [] n)) dir (Dir n)) (same_next w l.mid l.asked)
        ∙ ap (λ (u : Table). insert (insert u p (File [] (next_number w))) dir (Dir (next_number w))) t

  -- ---- rmdir

  taken_here : (w v : Workspace) (x : Done) (name p dir : List ℕ) (r : Unit {0} × Done) → NoLinks s w.changes → IsAsked w v → (at name (remove p) x (snapshot s) v).0 ≡ Ok r → parent_text p ≡ Some dir
      → tree_seen s (at name (remove p) x (snapshot s) v).1 ≡ insert (finite.remove (tree_seen s w) p) dir (Dir (next_number w))
  taken_here w v x name p dir r none asked e up =
      ap (tree_seen s) (at_left name (remove p) x v) ∙ removed_tree s v (still_none w v none asked) p dir (at_ok name (remove p) x v r e) up
      ∙ ap (λ (n : ℕ). insert (finite.remove (tree_seen s v) p) dir (Dir n)) (same_next w v asked)
      ∙ ap (λ (u : Table). insert (finite.remove u p) dir (Dir (next_number w))) (same_tree w v asked)

  -- past the question whether it is a link
  record Unlinked (d : Done) (name p : List ℕ) (w : Workspace) : Type 0 where
    mid : Workspace
    done : Done
    asked : IsAsked w mid
    goes : ◌≡◌ {A = Ran (Unit {0})} (unmade s w d name p) (remove_other_directory (operand name p) done (snapshot s) mid)

  module _ (w : Workspace) (none : NoLinks s w.changes) (d : Done) (name p : List ℕ) (r : Unit {0} × Done) (e : (unmade s w d name p).0 ≡ Ok r) where
    unlinked : Unlinked d name p w
    unfolding remove_directory
    unlinked =
        let k = remove_directory_past (operand name p) in
        let one = then_ok (at name (link_at p)) k d w r e in
        let z = one.0 in
        let mid = (link_at p (snapshot s) w).1 in
        let told = at_ok name (link_at p) d w z one.1 in
        record {
          mid = mid;
          done = z.1;
          asked = link_said_cost s w none p z.0 told;
          goes = one.2 ∙ ap (λ (u : Workspace). k z.0 z.1 (snapshot s) u) (at_left name (link_at p) d w) ∙ ap (λ (x : Option (List ℕ)). k x z.1 (snapshot s) mid) (link_says s w none p z.0 told);
        }

    abbrev past : Unlinked d name p w
    past = unlinked

    bare : NoLinks s past.mid.changes
    bare = still_none w past.mid none past.asked

    rmdir_looked : Looked (Unit {0}) (remove_directory_by (operand name p)) past.done p past.mid r (remove_other_directory (operand name p) past.done (snapshot s) past.mid)
    unfolding remove_other_directory
    rmdir_looked = looked name p (remove_directory_by (operand name p)) past.done past.mid bare r (sym (ap (λ (o : Ran (Unit {0})). o.0) past.goes) ∙ e)

    rmdir_by : (k : Kind) (x : Done) (v : Workspace) (dir : List ℕ) → IsAsked w v → (remove_directory_by (operand name p) k x (snapshot s) v).0 ≡ Ok r → parent_text p ≡ Some dir
        → tree_seen s (remove_directory_by (operand name p) k x (snapshot s) v).1 ≡ insert (finite.remove (tree_seen s w) p) dir (Dir (next_number w))
    unfolding steps.refuse
    rmdir_by kind.File x v dir asked f up = absurd cc
    rmdir_by kind.Link x v dir asked f up = absurd cc
    rmdir_by kind.Absent x v dir asked f up = taken_here w v x name p dir r none asked f up
    rmdir_by kind.Dir x v dir asked f up = taken_here w v x name p dir r none asked f up

    pub rmdir_tree : (dir : List ℕ) → parent_text p ≡ Some dir → tree_seen s (unmade s w d name p).1 ≡ insert (finite.remove (tree_seen s w) p) dir (Dir (next_number w))
    rmdir_tree dir up =
        let l = rmdir_looked in
        let whole = past.goes ∙ l.goes in
        let asked : IsAsked w l.mid = l.asked ∙ ap (λ (v : Workspace). record v { fuel = l.mid.fuel; asked = l.mid.asked }) past.asked in
        ap (λ (o : Ran (Unit {0})). tree_seen s o.1) whole ∙ rmdir_by (kind_of (get (tree_seen s past.mid) p)) l.done l.mid dir asked (sym (ap (λ (o : Ran (Unit {0})). o.0) whole) ∙ e) up

-- ---- the laws

pub cp_new_law : (s : State) (w : Workspace) → NoLinks s w.changes → (d : Done) (from to p q : List ℕ) (r : Unit {0} × Done) (bytes dir : List ℕ) → (copied s w d from to p q).0 ≡ Ok r → content_of (get (tree_seen s w) p) ≡ Some bytes
    → kind_of (get (tree_seen s w) q) ≡ kind.Absent → parent_text q ≡ Some dir → tree_seen s (copied s w d from to p q).1 ≡ insert (insert (tree_seen s w) q (File bytes (next_number w))) dir (Dir (next_number w))
cp_new_law s w none d from to p q r bytes dir e = cp_new s w none d from to p q r e bytes dir

pub cp_over_law : (s : State) (w : Workspace) → NoLinks s w.changes → (d : Done) (from to p q : List ℕ) (r : Unit {0} × Done) (bytes : List ℕ) → (copied s w d from to p q).0 ≡ Ok r → content_of (get (tree_seen s w) p) ≡ Some bytes
    → kind_of (get (tree_seen s w) q) ≢ kind.Absent → tree_seen s (copied s w d from to p q).1 ≡ insert (tree_seen s w) q (File bytes (next_number w))
cp_over_law s w none d from to p q r bytes e = cp_over s w none d from to p q r e bytes

pub mv_tree_law : (s : State) (w : Workspace) → NoLinks s w.changes → (d : Done) (from to p q : List ℕ) (r : Unit {0} × Done) (bytes : List ℕ) (stamp : ℕ) (old new : List ℕ) → (moved s w d from to p q).0 ≡ Ok r → get (tree_seen s w) p ≡ Some (File bytes stamp)
    → parent_text p ≡ Some old → parent_text q ≡ Some new → tree_seen s (moved s w d from to p q).1 ≡ insert (finite.remove (insert (insert (tree_seen s w) q (File bytes stamp)) new (Dir (next_number w))) p) old (Dir (next_number w + 1))
mv_tree_law s w none d from to p q r bytes stamp old new e = mv_tree s w none d from to p q r e bytes stamp old new

pub touch_new_law : (s : State) (w : Workspace) → NoLinks s w.changes → (d : Done) (name p : List ℕ) (r : Unit {0} × Done) (dir : List ℕ) → (touched s w d true name p).0 ≡ Ok r → kind_of (get (tree_seen s w) p) ≡ kind.Absent
    → parent_text p ≡ Some dir → tree_seen s (touched s w d true name p).1 ≡ insert (insert (tree_seen s w) p (File [] (next_number w))) dir (Dir (next_number w))
touch_new_law s w none d name p r dir e = touch_new s w none d true name p r e dir refl

pub touch_over_law : (s : State) (w : Workspace) → NoLinks s w.changes → (d : Done) (create : Bool) (name p : List ℕ) (r : Unit {0} × Done) (node : Node) → (touched s w d create name p).0 ≡ Ok r → get (tree_seen s w) p ≡ Some node
    → tree_seen s (touched s w d create name p).1 ≡ insert (tree_seen s w) p (with_stamp (next_number w) node)
touch_over_law s w none d create name p r node e = touch_left s w none d create name p r e node

pub rmdir_tree_law : (s : State) (w : Workspace) → NoLinks s w.changes → (d : Done) (name p : List ℕ) (r : Unit {0} × Done) (dir : List ℕ) → (unmade s w d name p).0 ≡ Ok r → parent_text p ≡ Some dir
    → tree_seen s (unmade s w d name p).1 ≡ insert (finite.remove (tree_seen s w) p) dir (Dir (next_number w))
rmdir_tree_law s w none d name p r dir e = rmdir_tree s w none d name p r e dir
