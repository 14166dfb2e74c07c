-- What touch, rmdir and mkdir leave, on a state.
use Rattle.std.proofs.Common.{◌≡◌, ◌≢◌, ◌⊎◌, inl, inr, ℕ, ◌+◌, ◌-◌, ◌<◌, Bool, true, false, cond, List, [], ◌∷◌, length, Option, Some, None, Result, Ok, Err, arith, refl, sym, ap, subst, ◌∙◌}
use Rattle.std.specs.Prelude.{option_map, unwrap_or, nat_lt}
use Rattle.std.specs.FinMap.{get}
use Rattle.em_base.proofs.Lemmas.{by_cases}
use Rattle.std.specs.List.{filter_map}
use Rattle.em_path.specs.Paths.{parent_text, last_of}
use Rattle.em_tree.specs.declared.node.Kind.{Kind}
use Rattle.em_tree.specs.declared.node.Kind.TheVariants as kind
use Rattle.em_tree.specs.declared.node.Node.{Node}
use Rattle.em_tree.specs.declared.node.Node.TheVariants.{File, Dir, Link}
use Rattle.em_tree.specs.declared.way.Way.{Way}
use Rattle.em_tree.specs.declared.way.Way.TheVariants.{To, TooMany, Bad}
use Rattle.em_tree.specs.declared.state.State.{State}
use Rattle.em_tree.specs.Trees.{Changes, kind_of, stamp_of, content_of, laid_over}
use Rattle.em_tree.specs.Names.{children_of, in_dir, names_of}
use Rattle.em_tree.proofs.Laying.{over}
use Rattle.em_tree.proofs.Lawful.{get-laid_over}
use Rattle.em_view.specs.declared.no.FileNo.{FileNo}
use Rattle.em_view.specs.declared.no.DeskNo.{DeskNo}
use Rattle.em_view.specs.declared.no.DeskNo.TheVariants as no
use Rattle.em_view.specs.declared.done.Done.{Done}
use Rattle.em_view.specs.Actions.{Workspace, snapshot, Action, go_on, ◌>>=◌, done, fail, ask, mine, spend, ready}
use Rattle.em_view.specs.Names.{with_own}
use Rattle.em_view.specs.Walking.{resolve, target_by, target}
use Rattle.em_view.specs.Rows.{blocks, kind_by, kind_below, kind_to, kind_at, content_by, content_below, names_below, link_at, number, change_number, becomes, change, pay, refuse, look_by, look, put_refusal, stamped, put_at, put, names_refusal, take_away, remove_dir, remove_by, remove_under, remove, touch_dir, touch_bytes, touch_file, touch_by, touch_at, touch}
use Rattle.em_view.proofs.Leading.{leads_laid}
use Rattle.em_view.specs.Steps.{Steps, and_then, below}
use Rattle.em_view.specs.Steps as steps
use Rattle.em_view.proofs.Fitting.{no_child}
use Rattle.em_utility.specs.declared.operand.OperandNo.{OperandNo}
use Rattle.em_utility.specs.Operands.{refused, at}
use Rattle.em_fileutil.specs.Making.{remove_directory_by, remove_other_directory, remove_directory_past, remove_directory, touch_operand}
use Rattle.em_fileutil.specs.Making as making
use Rattle.em_laws.specs.Expanded.{names_by, names_seen}
use Rattle.em_laws.specs.Nodes.{tree_seen, AreAlike}
use Rattle.em_laws.specs.Files.{AreOld, AreWhole}
use Rattle.em_laws.proofs.Expanding.{Gives, gives_kind_below, gives_kind, gives_link, gives_names_below, kind_there, node_there, led_there, plainly, NoLinks, led_plain}
use Rattle.em_laws.proofs.Changing.{dir_alike, Leaves, leaves_then, gives_ready, gives_pay, gives_refuse, gives_look, leaves_change, spot, Spot, gives_target, plain_target, Fresh, fresh_effect, Effect, effect, stamped_by, Taken, leaves_take, leaves_from, Removed, removed_gone}
use Rattle.em_laws.proofs.Filing.{LeavesS, then_s, at_gives, at_leaves, told_ok, gives_content_below, operand}
use Rattle.em_laws.proofs.Going.{Operand}

-- ---- actions that change nothing leave the number of the next change

abbrev next : Workspace → ℕ
next w = change_number w.base w.job (w.count + 1)

module _ (s : State) where
  abbrev Keeps : {A : Type 0} → Action DeskNo A → Type 0
  Keeps m = (w : Workspace) → next (m (snapshot s) w).1 ≡ next w

  keeps_on : {A B : Type 0} (r : Result A DeskNo) (w v : Workspace) (k : A → Action DeskNo B) → next v ≡ next w → ((a : A) → Keeps (k a)) → next (go_on r v k (snapshot s)).1 ≡ next w
  keeps_on (Ok a) w v k e h = h a v ∙ e
  keeps_on (Err x) w v k e h = e

  keeps_then : {A B : Type 0} (m : Action DeskNo A) (k : A → Action DeskNo B) → Keeps m → ((a : A) → Keeps (k a)) → Keeps (m >>= k)
  unfolding ◌>>=◌
  keeps_then m k h g w = keeps_on (m (snapshot s) w).0 w (m (snapshot s) w).1 k (h w) g

  keeps_done : {A : Type 0} (a : A) → Keeps (done a)
  unfolding done
  keeps_done a w = refl

  keeps_spend : (n : ℕ) → Keeps (spend n)
  unfolding spend
  keeps_spend n w = by_cases (nat_lt w.fuel n) (λ t. (let z : Result (Unit {0}) DeskNo × Workspace = cond t (Err no.Spent, w) (Ok tt, record w { fuel = w.fuel - n }) in next z.1 ≡ next w)) (λ _. refl) (λ _. refl)

  keeps_pay : (n : ℕ) → Keeps (pay n)
  unfolding pay
  keeps_pay n = keeps_then (spend 1) (λ u. spend n) (keeps_spend 1) (λ _. keeps_spend n)

  keeps_ready : Keeps ready
  unfolding ready
  keeps_ready w = refl

  keeps_refuse : (f : Option FileNo) → Keeps (refuse f)
  unfolding done fail
  keeps_refuse None w = refl
  keeps_refuse (Some f) w = refl

  keeps_kind_by : (m : Option (Option Node)) (p : List ℕ) → Keeps (kind_by m p)
  unfolding done ask ◌>>=◌
  keeps_kind_by None p w = refl
  keeps_kind_by (Some n) p w = refl

  keeps_kind_below : (p : List ℕ) → Keeps (kind_below p)
  unfolding kind_below mine ◌>>=◌
  keeps_kind_below p w = keeps_kind_by (get w.changes p) p w

  keeps_resolve : (last : Bool) (p : List ℕ) → Keeps (resolve last p)
  keeps_resolve last p w = ap next (leads_laid s w last p).1

  keeps_kind_to : (y : Way) → Keeps (kind_to y)
  keeps_kind_to (To q) = keeps_kind_below q
  keeps_kind_to TooMany = keeps_done kind.Absent
  keeps_kind_to Bad = keeps_done kind.Absent

  keeps_kind : (p : List ℕ) → Keeps (kind_at p)
  unfolding kind_at
  keeps_kind p =
      keeps_then (spend 1) (λ u. resolve true p >>= (λ f. kind_to f.way >>= (λ k. spend f.followed >>= (λ v. done k)))) (keeps_spend 1) (λ _.
      keeps_then (resolve true p) (λ f. kind_to f.way >>= (λ k. spend f.followed >>= (λ v. done k))) (keeps_resolve true p) (λ f.
      keeps_then (kind_to f.way) (λ k. spend f.followed >>= (λ v. done k)) (keeps_kind_to f.way) (λ k.
      keeps_then (spend f.followed) (λ v. done k) (keeps_spend f.followed) (λ _. keeps_done k))))

  keeps_target_by : (y : Way) → Keeps (target_by y)
  unfolding done fail
  keeps_target_by (To q) w = refl
  keeps_target_by TooMany w = refl
  keeps_target_by Bad w = refl

  keeps_target : (last : Bool) (p : List ℕ) → Keeps (target last p)
  unfolding target
  keeps_target last p =
      keeps_then (resolve last p) (λ f. target_by f.way >>= (λ q. done (q, f.followed))) (keeps_resolve last p) (λ f.
      keeps_then (target_by f.way) (λ q. done (q, f.followed)) (keeps_target_by f.way) (λ q. keeps_done (q, f.followed)))

  keeps_content_by : (m : Option (Option Node)) (p : List ℕ) → Keeps (content_by m p)
  unfolding done ask ◌>>=◌
  keeps_content_by None p w = refl
  keeps_content_by (Some n) p w = refl

  keeps_content_below : (p : List ℕ) → Keeps (content_below p)
  unfolding content_below mine ◌>>=◌
  keeps_content_below p w = keeps_content_by (get w.changes p) p w

  keeps_look : (p : List ℕ) → Keeps (look p)
  unfolding look
  keeps_look p = keeps_then (kind_below p) (λ k. look_by (parent_text p) k) (keeps_kind_below p) (λ k. by_parent (parent_text p) k)
    where
      by_parent : (o : Option (List ℕ)) (k : Kind) → Keeps (look_by o k)
      by_parent None k = keeps_done (k, None)
      by_parent (Some q) k = keeps_then (kind_below q) (λ x. done (k, Some x)) (keeps_kind_below q) (λ x. keeps_done (k, Some x))

-- ---- changes with their number

module _ (s : State) (d : Changes) (n : ℕ) where
  abbrev At : Workspace → Type 0
  At w = (w.changes ≡ d) × (next w ≡ n)

  abbrev GivesN : {A : Type 0} → Action DeskNo A → (A → Type 0) → Type 0
  GivesN {A} m P = (w : Workspace) → At w → (a : A) → (m (snapshot s) w).0 ≡ Ok a → P a × At (m (snapshot s) w).1

  abbrev LeavesN : {A : Type 0} → Action DeskNo A → (Changes → Type 0) → Type 0
  LeavesN {A} m R = (w : Workspace) → At w → (a : A) → (m (snapshot s) w).0 ≡ Ok a → R (m (snapshot s) w).1.changes

  keeping : {A : Type 0} (m : Action DeskNo A) (P : A → Type 0) → Gives s d m P → Keeps s m → GivesN m P
  keeping m P g k w here a e = let r = g w here.0 a e in (r.0, (r.1, k w ∙ here.1))

  n_further : {A B : Type 0} (r : Result A DeskNo) (w : Workspace) (P : A → Type 0) (k : A → Action DeskNo B) (R : Changes → Type 0) → ((a : A) → r ≡ Ok a → P a × At w) → ((a : A) → P a → LeavesN (k a) R) →
      (b : B) → (go_on r w k (snapshot s)).0 ≡ Ok b → R (go_on r w k (snapshot s)).1.changes
  n_further (Ok a) w P k R h g b e = let f = h a refl in g a f.0 w f.1 b e
  n_further (Err x) w P k R h g b e = absurd cc

  n_then : {A B : Type 0} (m : Action DeskNo A) (P : A → Type 0) (k : A → Action DeskNo B) (R : Changes → Type 0) → GivesN m P → ((a : A) → P a → LeavesN (k a) R) → LeavesN (m >>= k) R
  unfolding ◌>>=◌
  n_then m P k R h g w here b e = n_further (m (snapshot s) w).0 (m (snapshot s) w).1 P k R (λ a is. h w here a is) g b e

  gives_next : GivesN number (λ k. k ≡ n)
  unfolding number
  gives_next w here a e = (sym (let is : next w ≡ a = cc in is) ∙ here.1, here)

  n_pay : (k : ℕ) → GivesN (pay k) (λ _. Unit {0})
  n_pay k = keeping (pay k) (λ _. Unit {0}) (gives_pay s d k) (keeps_pay s k)

  n_ready : GivesN ready (λ _. Unit {0})
  n_ready = keeping ready (λ _. Unit {0}) (gives_ready s d) (keeps_ready s)

  abbrev Stamped : List ℕ → Node → Type 0
  Stamped bytes node = (content_of (Some node) ≡ Some bytes) × (stamp_of (Some node) ≡ Some n)

  -- where a path leads to itself
  n_at : {A : Type 0} (last : Bool) (p : List ℕ) (k : List ℕ → ℕ → Action DeskNo A) (R : Changes → Type 0) → led_there s d last p ≡ plainly s d p → LeavesN (k p 0) R → LeavesN (ready >>= (λ r. target last p >>= (λ t. k t.0 t.1))) R
  n_at last p k R plain h =
      n_then ready (λ _. Unit {0}) (λ r. target last p >>= (λ t. k t.0 t.1)) R n_ready (λ _ _.
      n_then (target last p) (λ t. led_there s d last p ≡ record { way = To t.0; followed = t.1 }) (λ t. k t.0 t.1) R (keeping (target last p) (λ t. led_there s d last p ≡ record { way = To t.0; followed = t.1 }) (gives_target s d last p) (keeps_target s last p)) (λ t e.
      let at = plain_target s d last p t.0 t.1 e plain in
      subst (λ (q : List ℕ). LeavesN (k q t.1) R) at.0 (subst (λ (m : ℕ). LeavesN (k p m) R) at.1 h)))

  put_left : (p : List ℕ) (m : ℕ) (bytes : List ℕ) → LeavesN (put_at p m bytes) (Fresh s d p (Stamped bytes))
  unfolding put_at
  put_left p m bytes =
      let R = Fresh s d p (Stamped bytes) in
      let units = blocks (length bytes) + m in
      n_then (look p) (λ z. z ≡ spot s d p) (λ z. refuse (put_refusal z.0 z.1 (length bytes)) >>= (λ f. pay units >>= (λ u. number >>= (λ k. change p (Some (File bytes k)) (stamped z.0 (parent_text p)))))) R (keeping (look p) (λ z. z ≡ spot s d p) (gives_look s d p) (keeps_look s p)) (λ z is.
      n_then (refuse (put_refusal z.0 z.1 (length bytes))) (λ _. put_refusal z.0 z.1 (length bytes) ≡ None) (λ f. pay units >>= (λ u. number >>= (λ k. change p (Some (File bytes k)) (stamped z.0 (parent_text p))))) R (keeping (refuse (put_refusal z.0 z.1 (length bytes))) (λ _. put_refusal z.0 z.1 (length bytes) ≡ None) (gives_refuse s d (put_refusal z.0 z.1 (length bytes))) (keeps_refuse s (put_refusal z.0 z.1 (length bytes)))) (λ _ free.
      n_then (pay units) (λ _. Unit {0}) (λ u. number >>= (λ k. change p (Some (File bytes k)) (stamped z.0 (parent_text p)))) R (n_pay units) (λ _ _.
      n_then number (λ k. k ≡ n) (λ k. change p (Some (File bytes k)) (stamped z.0 (parent_text p))) R gives_next (λ k now w here a e.
      let c = leaves_change s d p (Some (File bytes k)) (stamped z.0 (parent_text p)) w here.0 a e in
      (File bytes k, (refl, ap Some now), (stamped z.0 (parent_text p), c.0, c.1, stamped_by s d z.0 p), (length bytes, subst (λ (y : Spot s d). put_refusal y.0 y.1 (length bytes) ≡ None) is free))))))

  put_leaves : NoLinks s d → (p bytes : List ℕ) → LeavesN (put p bytes) (Fresh s d p (Stamped bytes))
  unfolding put
  put_leaves none p bytes = n_at true p (λ q m. put_at q m bytes) (Fresh s d p (Stamped bytes)) (led_plain s d none true p) (put_left p 0 bytes)

  abbrev Touched : List ℕ → Changes → Type 0
  Touched p x = (node : Node) × AreAlike (node_there s d p) (Some node) × (stamp_of (Some node) ≡ Some n) × ((m : ℕ) × (x ≡ becomes p (Some node) None m d))

  touch_dir_left : (p : List ℕ) (m : ℕ) → kind_there s d p ≡ kind.Dir → LeavesN (touch_dir p m) (Touched p)
  unfolding touch_dir
  touch_dir_left p m dir =
      n_then (pay m) (λ _. Unit {0}) (λ u. number >>= (λ k. change p (Some (Dir k)) None)) (Touched p) (n_pay m) (λ _ _.
      n_then number (λ k. k ≡ n) (λ k. change p (Some (Dir k)) None) (Touched p) gives_next (λ k now w here a e.
      (Dir k, dir_alike (node_there s d p) k dir, ap Some now, leaves_change s d p (Some (Dir k)) None w here.0 a e)))

  touch_bytes_left : (p : List ℕ) (m : ℕ) (o : Option (List ℕ)) → o ≡ content_of (node_there s d p) → kind_there s d p ≡ kind.File → LeavesN (touch_bytes o p m) (Touched p)
  unfolding fail
  touch_bytes_left p m None had file = λ w here a e. absurd cc
  touch_bytes_left p m (Some bytes) had file =
      n_then (pay m) (λ _. Unit {0}) (λ u. number >>= (λ k. change p (Some (File bytes k)) None)) (Touched p) (n_pay m) (λ _ _.
      n_then number (λ k. k ≡ n) (λ k. change p (Some (File bytes k)) None) (Touched p) gives_next (λ k now w here a e.
      (File bytes k, (file, sym had), ap Some now, leaves_change s d p (Some (File bytes k)) None w here.0 a e)))

  touch_by_left : (k : Kind) (p : List ℕ) (m : ℕ) → kind_there s d p ≡ k → LeavesN (touch_by k p m) (Touched p)
  unfolding fail touch_file
  touch_by_left kind.Absent p m is = λ w here a e. absurd cc
  touch_by_left kind.Link p m is = λ w here a e. absurd cc
  touch_by_left kind.Dir p m is = touch_dir_left p m is
  touch_by_left kind.File p m is =
      let P = λ (b : Option (List ℕ)). b ≡ content_of (node_there s d p) in
      n_then (content_below p) P (λ body. touch_bytes body p m) (Touched p) (keeping (content_below p) P (gives_content_below s d p) (keeps_content_below s p)) (λ o had. touch_bytes_left p m o had is)

  touch_left : (p : List ℕ) (m : ℕ) → LeavesN (touch_at p m) (Touched p)
  unfolding touch_at
  touch_left p m = n_then (kind_below p) (λ k. k ≡ kind_there s d p) (λ k. touch_by k p m) (Touched p) (keeping (kind_below p) (λ k. k ≡ kind_there s d p) (gives_kind_below s d p) (keeps_kind_below s p)) (λ k is. touch_by_left k p m (sym is))

  touch_leaves : NoLinks s d → (p : List ℕ) → LeavesN (touch p) (Touched p)
  unfolding touch
  touch_leaves none p = n_at true p touch_at (Touched p) (led_plain s d none true p) (touch_left p 0)

  -- ---- touch

  abbrev LeavesSN : {A : Type 0} → Steps Done OperandNo A → (Changes → Type 0) → Type 0
  LeavesSN {A} m R = (x : Done) (w : Workspace) → At w → (r : A × Done) → (m x (snapshot s) w).0 ≡ Ok r → R (m x (snapshot s) w).1.changes

  at_sn : {A : Type 0} (name : List ℕ) (m : Action DeskNo A) (R : Changes → Type 0) → LeavesN m R → LeavesSN (at name m) R
  unfolding at below
  at_sn name m R h x w here r e = h w here r.0 (told_ok s (refused name) x (m (snapshot s) w).0 r e)

  sn_further : {A B : Type 0} (r : Result (A × Done) (OperandNo × Done)) (w : Workspace) (P : A → Type 0) (k : A → Steps Done OperandNo B) (R : Changes → Type 0) → ((z : A × Done) → r ≡ Ok z → P z.0 × At w) → ((a : A) → P a → LeavesSN (k a) R) →
      (b : B × Done) → (go_on r w (λ z. k z.0 z.1) (snapshot s)).0 ≡ Ok b → R (go_on r w (λ z. k z.0 z.1) (snapshot s)).1.changes
  sn_further (Ok z) w P k R h g b e = let f = h z refl in g z.0 f.0 z.1 w f.1 b e
  sn_further (Err x) w P k R h g b e = absurd cc

  at_then_sn : {A B : Type 0} (name : List ℕ) (m : Action DeskNo A) (P : A → Type 0) (k : A → Steps Done OperandNo B) (R : Changes → Type 0) → GivesN m P → ((a : A) → P a → LeavesSN (k a) R) → LeavesSN (and_then (at name m) k) R
  unfolding and_then at below ◌>>=◌
  at_then_sn name m P k R h g x w here b e = sn_further (at name m x (snapshot s) w).0 (m (snapshot s) w).1 P k R (λ z is. h w here z.0 (told_ok s (refused name) x (m (snapshot s) w).0 z is)) g b e

  -- what is left, by what was there
  abbrev Left : Kind → Bool → List ℕ → Changes → Type 0
  Left kind.Absent true p x = Fresh s d p (Stamped []) x
  Left kind.Absent false p x = x ≡ d
  Left kind.File create p x = Touched p x
  Left kind.Dir create p x = Touched p x
  Left kind.Link create p x = ⊥

  touch_operand_by : NoLinks s d → (create : Bool) (o : Operand) (k : Kind) → kind_there s d o.path ≡ k → LeavesSN (making.touch_by create o k) (Left k create o.path)
  unfolding steps.done
  touch_operand_by none true o kind.Absent is = at_sn o.name (put o.path []) (Fresh s d o.path (Stamped [])) (put_leaves none o.path [])
  touch_operand_by none false o kind.Absent is = λ x w here r e. here.0
  touch_operand_by none create o kind.File is = at_sn o.name (touch o.path) (Touched o.path) (touch_leaves none o.path)
  touch_operand_by none create o kind.Dir is = at_sn o.name (touch o.path) (Touched o.path) (touch_leaves none o.path)
  touch_operand_by none create o kind.Link is = absurd (none o.path is)

  touch_operand_at : NoLinks s d → (create : Bool) (o : Operand) → LeavesSN (touch_operand create o) (Left (kind_there s d o.path) create o.path)
  unfolding touch_operand
  touch_operand_at none create o = at_then_sn o.name (kind_at o.path) (λ k. k ≡ kind_there s d o.path) (λ k. making.touch_by create o k) (Left (kind_there s d o.path) create o.path)
      (keeping (kind_at o.path) (λ k. k ≡ kind_there s d o.path) (gives_kind s d none o.path) (keeps_kind s o.path))
      (λ k is. subst (λ (z : Kind). LeavesSN (making.touch_by create o k) (Left z create o.path)) is (touch_operand_by none create o k (sym is)))

  -- the node that is left, with its stamp
  abbrev Now : List ℕ → Changes → Type 0
  Now p x = (node : Node) × Effect s d p (Some node) x × (stamp_of (Some node) ≡ Some n)

  touched_effect : (p : List ℕ) (x : Changes) → Touched p x → (node : Node) × Effect s d p (Some node) x × (stamp_of (Some node) ≡ Some n) × AreAlike (node_there s d p) (Some node)
  touched_effect p x (node, alike, stamp, (m, is)) = (node, effect s d p (Some node) None m x is tt, stamp, alike)

  put_effect : (p : List ℕ) (x : Changes) → Fresh s d p (Stamped []) x → (node : Node) × Effect s d p (Some node) x × (stamp_of (Some node) ≡ Some n) × (content_of (Some node) ≡ Some [])
  put_effect p x fresh = let f = fresh_effect s d p (Stamped []) x fresh in (f.0, f.2, f.1.1, f.1.0)

  left_now : (k : Kind) (create : Bool) (p : List ℕ) (x : Changes) → (create ≡ true) ⊎ (k ≢ kind.Absent) → Left k create p x → stamp_of (get (laid_over x s.tree) p) ≡ Some n
  left_now kind.Absent true p x h l = let t = put_effect p x l in ap stamp_of t.1.now ∙ t.2
  left_now kind.Absent false p x (inl e) l = absurd cc
  left_now kind.Absent false p x (inr h) l = absurd (h refl)
  left_now kind.Link create p x h l = absurd l
  left_now kind.File create p x h l = let t = touched_effect p x l in ap stamp_of t.1.now ∙ t.2
  left_now kind.Dir create p x h l = let t = touched_effect p x l in ap stamp_of t.1.now ∙ t.2

module _ (s : State) (w : Workspace) (d : Done) where
  abbrev touching : Bool → List ℕ → List ℕ → Result (Unit {0} × Done) (OperandNo × Done) × Workspace
  touching create name p = touch_operand create (operand name p) d (snapshot s) w

  left : NoLinks s w.changes → (create : Bool) (name p : List ℕ) (r : Unit {0} × Done) → (touching create name p).0 ≡ Ok r → Left s w.changes (next w) (kind_there s w.changes p) create p (touching create name p).1.changes
  left none create name p r e = touch_operand_at s w.changes (next w) none create (operand name p) d w (refl, refl) r e

  pub touch_newest_by : NoLinks s w.changes → (create : Bool) (name p : List ℕ) (r : Unit {0} × Done) → AreOld s w → (touching create name p).0 ≡ Ok r → (create ≡ true) ⊎ (kind_of (get (tree_seen s w) p) ≢ kind.Absent) →
      (t : ℕ) × (stamp_of (get (tree_seen s (touching create name p).1) p) ≡ Some t) × ((q : List ℕ) (n : ℕ) → stamp_of (get (tree_seen s w) q) ≡ Some n → n < t)
  touch_newest_by none create name p r old e which =
      (next w, left_now s w.changes (next w) (kind_there s w.changes p) create p (touching create name p).1.changes which (left none create name p r e), λ q n was. (let le = old q n was in omega arith))

  pub touch_none_by : NoLinks s w.changes → (name p : List ℕ) (r : Unit {0} × Done) → (touching false name p).0 ≡ Ok r → kind_of (get (tree_seen s w) p) ≡ kind.Absent → tree_seen s (touching false name p).1 ≡ tree_seen s w
  touch_none_by none name p r e absent =
      let x = (touching false name p).1.changes in
      let same : x ≡ w.changes = subst (λ (k : Kind). Left s w.changes (next w) k false p x) absent (left none false name p r e) in
      ap (λ (c : Changes). laid_over c s.tree) same

pub touch_newest : (s : State) (w : Workspace) → NoLinks s w.changes → (d : Done) (create : Bool) (name p : List ℕ) (r : Unit {0} × Done) → AreOld s w → (touching s w d create name p).0 ≡ Ok r → (create ≡ true) ⊎ (kind_of (get (tree_seen s w) p) ≢ kind.Absent) →
    (t : ℕ) × (stamp_of (get (tree_seen s (touching s w d create name p).1) p) ≡ Some t) × ((q : List ℕ) (n : ℕ) → stamp_of (get (tree_seen s w) q) ≡ Some n → n < t)
touch_newest s w none d = touch_newest_by s w d none

pub touch_none : (s : State) (w : Workspace) → NoLinks s w.changes → (d : Done) (name p : List ℕ) (r : Unit {0} × Done) → (touching s w d false name p).0 ≡ Ok r → kind_of (get (tree_seen s w) p) ≡ kind.Absent → tree_seen s (touching s w d false name p).1 ≡ tree_seen s w
touch_none s w none d = touch_none_by s w d none

-- ---- rmdir

module _ (s : State) (d : Changes) where
  abbrev Emptied : List ℕ → Changes → Type 0
  Emptied p x = Removed s d p x × (kind_there s d p ≡ kind.Dir → names_refusal (names_seen s d p) ≡ None)

  empty_by : (k : Kind) (p above : List ℕ) (m : ℕ) → k ≡ kind_there s d p → Leaves s d (remove_by k p above m) (λ x. Taken s d p above x × (k ≢ kind.Absent) × (kind_there s d p ≡ kind.Dir → names_refusal (names_seen s d p) ≡ None))
  unfolding fail remove_dir
  empty_by kind.Absent p above m is = λ w same a e. absurd cc
  empty_by kind.File p above m is = λ w same a e. (leaves_take s d p above m w same a e, λ x. cc, λ dir. absurd (let no : kind.File ≡ kind.Dir = is ∙ dir in cc))
  empty_by kind.Link p above m is = λ w same a e. (leaves_take s d p above m w same a e, λ x. cc, λ dir. absurd (let no : kind.Link ≡ kind.Dir = is ∙ dir in cc))
  empty_by kind.Dir p above m is =
      let R = λ (x : Changes). Taken s d p above x × (kind.Dir ≢ kind.Absent) × (kind_there s d p ≡ kind.Dir → names_refusal (names_seen s d p) ≡ None) in
      leaves_then s d (names_below p) (λ ns. ns ≡ names_seen s d p) (λ ns. refuse (names_refusal ns) >>= (λ f. take_away p above m)) R (gives_names_below s d p) (λ ns are.
      leaves_then s d (refuse (names_refusal ns)) (λ _. names_refusal ns ≡ None) (λ f. take_away p above m) R (gives_refuse s d (names_refusal ns)) (λ _ free w same a e.
      (leaves_take s d p above m w same a e, λ x. cc, λ _. ap names_refusal (sym are) ∙ free)))

  empty_under : (p : List ℕ) (m : ℕ) (o : Option (List ℕ)) → parent_text p ≡ o → Leaves s d (remove_under o p m) (Emptied p)
  unfolding fail
  empty_under p m None e = λ w same a f. absurd cc
  empty_under p m (Some above) e = leaves_then s d (kind_below p) (λ k. k ≡ kind_there s d p) (λ k. remove_by k p above m) (Emptied p) (gives_kind_below s d p) (λ k is w same a f.
      let r = empty_by k p above m is w same a f in ((above, e, r.0, λ none. r.1 (is ∙ none)), r.2))

  leaves_empty : NoLinks s d → (p : List ℕ) → Leaves s d (remove p) (Emptied p)
  leaves_empty none p = leaves_from s d (Emptied p) p (led_plain s d none false p) (λ m. empty_under p m (parent_text p) refl)

  rmdir_by : NoLinks s d → (o : Operand) (k : Kind) → LeavesS s d (remove_directory_by o k) (λ x. Emptied o.path x × (k ≢ kind.File))
  unfolding steps.refuse
  rmdir_by none o kind.File = λ x w same r e. absurd cc
  rmdir_by none o kind.Link = λ x w same r e. absurd cc
  rmdir_by none o kind.Absent = λ x w same r e. (at_leaves s d o.name (remove o.path) (Emptied o.path) (leaves_empty none o.path) x w same r e, λ z. cc)
  rmdir_by none o kind.Dir = λ x w same r e. (at_leaves s d o.name (remove o.path) (Emptied o.path) (leaves_empty none o.path) x w same r e, λ z. cc)

  abbrev Unmade : List ℕ → Changes → Type 0
  Unmade p x = Emptied p x × (kind_there s d p ≡ kind.Dir)

  dir_only : (k : Kind) → k ≢ kind.Absent → k ≢ kind.File → k ≢ kind.Link → k ≡ kind.Dir
  dir_only kind.Absent a f l = absurd (a refl)
  dir_only kind.File a f l = absurd (f refl)
  dir_only kind.Link a f l = absurd (l refl)
  dir_only kind.Dir a f l = refl

  rmdir_other : NoLinks s d → (o : Operand) → LeavesS s d (remove_other_directory o) (Unmade o.path)
  unfolding remove_other_directory
  rmdir_other none o = then_s s d (at o.name (kind_at o.path)) (λ k. k ≡ kind_there s d o.path) (λ k. remove_directory_by o k) (Unmade o.path) (at_gives s d o.name (kind_at o.path) (λ k. k ≡ kind_there s d o.path) (gives_kind s d none o.path)) (λ k is x w same r e.
      let out = rmdir_by none o k x w same r e in
      (out.0, dir_only (kind_there s d o.path) (removed_gone s d o.path (remove_directory_by o k x (snapshot s) w).1.changes out.0.0).1 (λ file. out.1 (is ∙ file)) (none o.path)))

  leaves_rmdir : NoLinks s d → (o : Operand) → LeavesS s d (remove_directory o) (Unmade o.path)
  unfolding remove_directory
  leaves_rmdir none o = then_s s d (at o.name (link_at o.path)) (λ l. l ≡ None) (λ l. remove_directory_past o l) (Unmade o.path) (at_gives s d o.name (link_at o.path) (λ l. l ≡ None) (gives_link s d none o.path)) (λ l is.
      subst (λ (z : Option (List ℕ)). LeavesS s d (remove_directory_past o z) (Unmade o.path)) (sym is) (rmdir_other none o))

  no_names : (o : Option (List (List ℕ))) → names_refusal o ≡ None → unwrap_or o [] ≡ []
  no_names None e = refl
  no_names (Some []) e = refl
  no_names (Some (n ∷ ns)) e = absurd cc

  own_by : (p : List ℕ) (m : Option (Option Node)) → kind_of (over m (get s.tree p)) ≡ kind.Dir → names_by m s d p ≡ Some (with_own d p (unwrap_or (names_of s.tree p) []))
  own_by p None e =
      let ns = filter_map last_of (children_of s.tree p) in
      ap (λ k. option_map (with_own d p) (in_dir k ns)) e ∙ sym (ap (λ k. Some (with_own d p (unwrap_or (in_dir k ns) []))) e)
  own_by p (Some None) e = absurd cc
  own_by p (Some (Some (File body stamp))) e = absurd cc
  own_by p (Some (Some (Link text stamp))) e = absurd cc
  own_by p (Some (Some (Dir stamp))) e = refl

  -- the names of a directory that is seen
  pub own_names : (p : List ℕ) → kind_there s d p ≡ kind.Dir → names_seen s d p ≡ Some (with_own d p (unwrap_or (names_of s.tree p) []))
  own_names p dir = own_by p (get d p) (ap kind_of (sym (get-laid_over d s.tree p)) ∙ dir)

module _ (s : State) (w : Workspace) (none : NoLinks s w.changes) (d : Done) where
  abbrev unmaking : List ℕ → List ℕ → Result (Unit {0} × Done) (OperandNo × Done) × Workspace
  unmaking name p = remove_directory (operand name p) d (snapshot s) w

  unmade : (name p : List ℕ) (r : Unit {0} × Done) → (unmaking name p).0 ≡ Ok r → Unmade s w.changes p (unmaking name p).1.changes
  unmade name p r e = leaves_rmdir s w.changes none (operand name p) d w refl r e

  pub rmdir_empty : (name p : List ℕ) (r : Unit {0} × Done) → AreWhole s w → (unmaking name p).0 ≡ Ok r → (kind_of (get (tree_seen s w) p) ≡ kind.Dir) × ((q : List ℕ) → parent_text q ≡ Some p → get (tree_seen s w) q ≡ None)
  rmdir_empty name p r (low, high, paths) e =
      let u = unmade name p r e in
      let bare : with_own w.changes p (unwrap_or (names_of s.tree p) []) ≡ [] = ap (λ (o : Option (List (List ℕ))). unwrap_or o []) (sym (own_names s w.changes p u.1)) ∙ no_names s w.changes (names_seen s w.changes p) (u.0.1 u.1) in
      (u.1, no_child s.tree w.changes p low high paths bare)

  pub rmdir_gone : (name p : List ℕ) (r : Unit {0} × Done) → (unmaking name p).0 ≡ Ok r → get (tree_seen s (unmaking name p).1) p ≡ None
  rmdir_gone name p r e = (removed_gone s w.changes p (unmaking name p).1.changes (unmade name p r e).0.0).0
