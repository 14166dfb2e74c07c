-- What the changes of a desk leave, on a state.
use Rattle.std.proofs.Common.{◌≡◌, ◌≢◌, ◌⊎◌, inl, inr, ℕ, ◌+◌, Bool, true, false, List, length, Option, Some, None, Result, Ok, Err, refl, sym, ap, subst, ◌∙◌}
use Rattle.std.specs.Prelude.{option_map, IsSome}
use Rattle.std.specs.FinMap.{get, insert}
use Rattle.std.specs.Ordering.{eq_by_cmp}
use Rattle.em_base.proofs.Lemmas.{by_cases, order, same_key, own_key}
use Rattle.em_path.specs.Paths.{parent_text}
use Rattle.em_tree.specs.declared.node.Kind.{Kind}
use Rattle.em_tree.specs.declared.node.Kind.TheVariants as kind
use Rattle.em_tree.specs.declared.node.Node.{Node}
use Rattle.em_tree.specs.declared.node.Node.TheVariants.{File, Dir, Link}
use Rattle.em_tree.specs.declared.way.Way.{Way}
use Rattle.em_tree.specs.declared.way.Way.TheVariants.{To, TooMany, Bad}
use Rattle.em_tree.specs.declared.way.Led.{Led}
use Rattle.em_tree.specs.declared.state.State.{State}
use Rattle.em_tree.specs.Trees.{Table, Changes, IsTree, kind_of, stamp_of, content_of, laid_over}
use Rattle.em_tree.proofs.Laying.{changed-here, changed-other}
use Rattle.em_view.specs.declared.no.FileNo.{FileNo}
use Rattle.em_view.specs.declared.no.DeskNo.{DeskNo}
use Rattle.em_view.specs.Actions.{Workspace, snapshot, Action, go_on, ◌>>=◌, done, fail, spend, ready}
use Rattle.em_view.specs.Walking.{resolve, target_by, target}
use Rattle.em_view.specs.Rows.{blocks, kind_below, names_below, number, change_number, becomes, change, pay, refuse, look_by, look, put_refusal, dir_refusal, stamped, put_at, put, place_at, place, make_dir_at, make_dir, names_refusal, take_away, remove_dir, remove_by, remove_under, remove_from, remove}
use Rattle.em_view.proofs.Fitting.{laid_insert, not_above}
use Rattle.em_laws.specs.Expanded.{names_seen}
use Rattle.em_laws.specs.Nodes.{AreAlike, OthersStay}
use Rattle.em_laws.proofs.Expanding.{Gives, gives_then, gives_done, gives_spend, gives_kind_below, gives_names_below, kind_there, led_there, plainly, NoLinks, led_plain, gives_resolve}

-- ---- one change, and the stamp of the directory above

module _ (d : Changes) (t : Table) where
  abbrev before : Table
  before = laid_over d t

  pub here : (p : List ℕ) (c : Option Node) → get (laid_over (insert d p c) t) p ≡ c
  here p c = ap (λ (u : Table). get u p) (laid_insert d t p c) ∙ changed-here before p c

  pub elsewhere : (p : List ℕ) (c : Option Node) (q : List ℕ) → q ≢ p → get (laid_over (insert d p c) t) q ≡ get before q
  elsewhere p c q h = ap (λ (u : Table). get u q) (laid_insert d t p c) ∙ changed-other before p c q (by_cases (eq_by_cmp order q p) (λ b. b ≡ false) (λ is. absurd (h (same_key q p is))) (λ _. refl))

pub same_key_or : (q p : List ℕ) (P : Type 0) → (q ≡ p → P) → ((q ≡ p → ⊥) → P) → P
same_key_or q p P equal other = by_cases (eq_by_cmp order q p) (λ b. eq_by_cmp order q p ≡ b → P) (λ _ is. equal (same_key q p is)) (λ _ isnt. other (λ e. (let t : eq_by_cmp order q p ≡ true = ap (λ (x : List ℕ). eq_by_cmp order x p) e ∙ own_key p in cc))) refl

pub dir_alike : (a : Option Node) (n : ℕ) → kind_of a ≡ kind.Dir → AreAlike a (Some (Dir n))
dir_alike None n e = absurd cc
dir_alike (Some (File body stamp)) n e = absurd cc
dir_alike (Some (Dir stamp)) n e = (refl, refl)
dir_alike (Some (Link text stamp)) n e = absurd cc

pub alike_by : (a b : Option Node) → b ≡ a → AreAlike a b
alike_by a b e = (ap kind_of (sym e), ap content_of (sym e))

-- the directory that is stamped, where one is, stands above, and is one
abbrev pub IsAbove : Table → List ℕ → Option (List ℕ) → Type 0
IsAbove t p None = Unit {0}
IsAbove t p (Some q) = (parent_text p ≡ Some q) × (kind_of (get t q) ≡ kind.Dir)

pub becomes_here : (t : Table) (d : Changes) (p : List ℕ) (c : Option Node) (above : Option (List ℕ)) (n : ℕ) → ((q : List ℕ) → above ≡ Some q → parent_text p ≡ Some q) → get (laid_over (becomes p c above n d) t) p ≡ c
becomes_here t d p c None n up = here d t p c
becomes_here t d p c (Some q) n up = elsewhere (insert d p c) t q (Some (Dir n)) p (not_above p q (up q refl)) ∙ here d t p c

pub becomes_others : (t : Table) (d : Changes) (p : List ℕ) (c : Option Node) (above : Option (List ℕ)) (n : ℕ) → IsAbove (laid_over d t) p above → OthersStay p (laid_over d t) (laid_over (becomes p c above n d) t)
becomes_others t d p c None n up q h = alike_by (get (laid_over d t) q) (get (laid_over (insert d p c) t) q) (elsewhere d t p c q h)
becomes_others t d p c (Some r) n up q h = same_key_or q r (AreAlike (get (laid_over d t) q) (get (laid_over (becomes p c (Some r) n d) t) q))
    (λ is. let now : get (laid_over (becomes p c (Some r) n d) t) q ≡ Some (Dir n) = ap (get (laid_over (becomes p c (Some r) n d) t)) is ∙ here (insert d p c) t r (Some (Dir n)) in
    subst (AreAlike (get (laid_over d t) q)) (sym now) (dir_alike (get (laid_over d t) q) n (ap (λ (x : List ℕ). kind_of (get (laid_over d t) x)) is ∙ up.1)))
    (λ isnt. alike_by (get (laid_over d t) q) (get (laid_over (becomes p c (Some r) n d) t) q) (elsewhere (insert d p c) t r (Some (Dir n)) q isnt ∙ elsewhere d t p c q h))

pub elsewhere_else : (t : Table) (d : Changes) (p : List ℕ) (c : Option Node) (r : List ℕ) (n : ℕ) (q : List ℕ) → q ≢ p → q ≢ r → get (laid_over (becomes p c (Some r) n d) t) q ≡ get (laid_over d t) q
elsewhere_else t d p c r n q not_p not_r = elsewhere (insert d p c) t r (Some (Dir n)) q not_r ∙ elsewhere d t p c q not_p

-- ---- actions that end with a change

module _ (s : State) (d : Changes) where
  abbrev pub tree : Table
  tree = laid_over d s.tree

  abbrev pub Leaves : {A : Type 0} → Action DeskNo A → (Changes → Type 0) → Type 0
  Leaves {A} m R = (w : Workspace) → w.changes ≡ d → (a : A) → (m (snapshot s) w).0 ≡ Ok a → R (m (snapshot s) w).1.changes

  on_further : {A B : Type 0} (r : Result A DeskNo) (w : Workspace) (P : A → Type 0) (k : A → Action DeskNo B) (R : Changes → Type 0) → ((a : A) → r ≡ Ok a → P a × (w.changes ≡ d)) → ((a : A) → P a → Leaves (k a) R) →
      (b : B) → (go_on r w k (snapshot s)).0 ≡ Ok b → R (go_on r w k (snapshot s)).1.changes
  on_further (Ok a) w P k R h g b e = let f = h a refl in g a f.0 w f.1 b e
  on_further (Err x) w P k R h g b e = absurd cc

  pub leaves_then : {A B : Type 0} (m : Action DeskNo A) (P : A → Type 0) (k : A → Action DeskNo B) (R : Changes → Type 0) → Gives s d m P → ((a : A) → P a → Leaves (k a) R) → Leaves (m >>= k) R
  unfolding ◌>>=◌
  leaves_then m P k R h g w same b e = on_further (m (snapshot s) w).0 (m (snapshot s) w).1 P k R (λ a is. h w same a is) g b e

  pub gives_ready : Gives s d ready (λ _. Unit {0})
  unfolding ready
  gives_ready w same a e = (tt, same)

  pub gives_number : Gives s d number (λ _. Unit {0})
  unfolding number
  gives_number w same a e = (tt, same)

  pub gives_pay : (n : ℕ) → Gives s d (pay n) (λ _. Unit {0})
  unfolding pay
  gives_pay n = gives_then s d (spend 1) (λ _. Unit {0}) (λ u. spend n) (λ _. Unit {0}) (gives_spend s d 1) (λ _ _. gives_spend s d n)

  pub gives_refuse : (f : Option FileNo) → Gives s d (refuse f) (λ _. f ≡ None)
  unfolding fail
  gives_refuse None = gives_done s d (λ _. None ≡ None) tt refl
  gives_refuse (Some f) = λ w same a e. absurd cc

  abbrev pub Spot : Type 0
  Spot = Kind × Option Kind

  abbrev pub spot : List ℕ → Spot
  spot p = (kind_there s d p, option_map (kind_there s d) (parent_text p))

  gives_look_by : (p : List ℕ) (o : Option (List ℕ)) (k : Kind) → k ≡ kind_there s d p → Gives s d (look_by o k) (λ z. z ≡ (kind_there s d p, option_map (kind_there s d) o))
  gives_look_by p None k e = gives_done s d (λ (z : Spot). z ≡ (kind_there s d p, None)) (k, None) (ap (λ (x : Kind). (let z : Spot = (x, None) in z)) e)
  gives_look_by p (Some q) k e = gives_then s d (kind_below q) (λ x. x ≡ kind_there s d q) (λ x. done (k, Some x)) (λ (z : Spot). z ≡ (kind_there s d p, Some (kind_there s d q))) (gives_kind_below s d q) (λ x is.
      gives_done s d (λ (z : Spot). z ≡ (kind_there s d p, Some (kind_there s d q))) (k, Some x) (ap (λ (y : Kind). (let z : Spot = (y, Some x) in z)) e ∙ ap (λ (y : Kind). (let z : Spot = (kind_there s d p, Some y) in z)) is))

  pub gives_look : (p : List ℕ) → Gives s d (look p) (λ z. z ≡ spot p)
  unfolding look
  gives_look p = gives_then s d (kind_below p) (λ k. k ≡ kind_there s d p) (λ k. look_by (parent_text p) k) (λ z. z ≡ spot p) (gives_kind_below s d p) (λ k is. gives_look_by p (parent_text p) k is)

  pub leaves_change : (p : List ℕ) (c : Option Node) (above : Option (List ℕ)) → Leaves (change p c above) (λ x. (n : ℕ) × (x ≡ becomes p c above n d))
  unfolding change
  leaves_change p c above w same a e = (change_number w.base w.job (w.count + 1), ap (becomes p c above (change_number w.base w.job (w.count + 1))) same)

  -- ---- where a change goes

  gives_target_by : (last : Bool) (p : List ℕ) (y : Way) (n : ℕ) → led_there s d last p ≡ record { way = y; followed = n } → Gives s d {A = List ℕ × ℕ} (target_by y >>= (λ q. done (q, n))) (λ t. led_there s d last p ≡ record { way = To t.0; followed = t.1 })
  unfolding ◌>>=◌ done fail
  gives_target_by last p (To q) n e w same t f = (e ∙ ap (λ (z : List ℕ × ℕ). (let l : Led = record { way = To z.0; followed = z.1 } in l)) (let is : (q, n) ≡ t = cc in is), same)
  gives_target_by last p TooMany n e w same t f = absurd cc
  gives_target_by last p Bad n e w same t f = absurd cc

  pub gives_target : (last : Bool) (p : List ℕ) → Gives s d (target last p) (λ t. led_there s d last p ≡ record { way = To t.0; followed = t.1 })
  unfolding target
  gives_target last p = gives_then s d (resolve last p) (λ f. f ≡ led_there s d last p) (λ f. target_by f.way >>= (λ q. done (q, f.followed))) (λ t. led_there s d last p ≡ record { way = To t.0; followed = t.1 })
      (gives_resolve s d last p) (λ f is. gives_target_by last p f.way f.followed (sym is))

  -- without links it goes where it was asked for
  pub plain_target : (last : Bool) (p q : List ℕ) (n : ℕ) → led_there s d last p ≡ record { way = To q; followed = n } → led_there s d last p ≡ plainly s d p → (p ≡ q) × (0 ≡ n)
  plain_target last p q n e f =
      let is : plainly s d p ≡ record { way = To q; followed = n } = sym f ∙ e in
      let way : To p ≡ To q = ap (λ (l : Led). l.way) is in
      (cc, ap (λ (l : Led). l.followed) is)

  leaves_target : {A : Type 0} (last : Bool) (p : List ℕ) (k : List ℕ → ℕ → Action DeskNo A) (R : Changes → Type 0) → led_there s d last p ≡ plainly s d p → Leaves (k p 0) R → Leaves (target last p >>= (λ t. k t.0 t.1)) R
  leaves_target last p k R plain h = leaves_then (target last p) (λ t. led_there s d last p ≡ record { way = To t.0; followed = t.1 }) (λ t. k t.0 t.1) R (gives_target last p) (λ t e.
      let at = plain_target last p t.0 t.1 e plain in
      subst (λ (q : List ℕ). Leaves (k q t.1) R) at.0 (subst (λ (n : ℕ). Leaves (k p n) R) at.1 h))

  pub leaves_at : {A : Type 0} (last : Bool) (p : List ℕ) (k : List ℕ → ℕ → Action DeskNo A) (R : Changes → Type 0) → led_there s d last p ≡ plainly s d p → Leaves (k p 0) R → Leaves (ready >>= (λ r. target last p >>= (λ t. k t.0 t.1))) R
  leaves_at last p k R plain h = leaves_then ready (λ _. Unit {0}) (λ r. target last p >>= (λ t. k t.0 t.1)) R gives_ready (λ _ _. leaves_target last p k R plain h)

  -- ---- put and place

  pub no_dir : (k : Kind) (o : Option Kind) (n : ℕ) → put_refusal k o n ≡ None → (k ≢ kind.Dir) × ((a : Kind) → o ≡ Some a → a ≡ kind.Dir)
  no_dir k None n e = absurd cc
  no_dir kind.Dir (Some a) n e = absurd cc
  no_dir kind.Absent (Some kind.Absent) n e = absurd cc
  no_dir kind.Absent (Some kind.File) n e = absurd cc
  no_dir kind.Absent (Some kind.Dir) n e = (λ x. cc, λ a h. (let same : kind.Dir ≡ a = cc in sym same))
  no_dir kind.Absent (Some kind.Link) n e = absurd cc
  no_dir kind.Link (Some kind.Absent) n e = absurd cc
  no_dir kind.Link (Some kind.File) n e = absurd cc
  no_dir kind.Link (Some kind.Link) n e = absurd cc
  no_dir kind.Link (Some kind.Dir) n e = (λ x. cc, λ a h. (let same : kind.Dir ≡ a = cc in sym same))
  no_dir kind.File (Some kind.Link) n e = absurd cc
  no_dir kind.File (Some kind.Absent) n e = absurd cc
  no_dir kind.File (Some kind.File) n e = absurd cc
  no_dir kind.File (Some kind.Dir) n e = (λ x. cc, λ a h. (let same : kind.Dir ≡ a = cc in sym same))

  abbrev pub Fresh : List ℕ → (Node → Type 0) → Changes → Type 0
  Fresh p P x = (node : Node) × P node × ((above : Option (List ℕ)) × (n : ℕ) × (x ≡ becomes p (Some node) above n d) × ((above ≡ None) ⊎ (above ≡ parent_text p)))
      × ((size : ℕ) × (put_refusal (kind_there s d p) (option_map (kind_there s d) (parent_text p)) size ≡ None))

  pub stamped_by : (k : Kind) (p : List ℕ) → (stamped k (parent_text p) ≡ None) ⊎ (stamped k (parent_text p) ≡ parent_text p)
  stamped_by kind.Absent p = inr refl
  stamped_by kind.File p = inl refl
  stamped_by kind.Dir p = inl refl
  stamped_by kind.Link p = inl refl

  put_left : (p : List ℕ) (m : ℕ) (bytes : List ℕ) → Leaves (put_at p m bytes) (Fresh p (λ node. content_of (Some node) ≡ Some bytes))
  unfolding put_at
  put_left p m bytes =
      let R = Fresh p (λ node. content_of (Some node) ≡ Some bytes) in
      let units = blocks (length bytes) + m in
      leaves_then (look p) (λ z. z ≡ spot p) (λ z. refuse (put_refusal z.0 z.1 (length bytes)) >>= (λ f. pay units >>= (λ u. number >>= (λ n. change p (Some (File bytes n)) (stamped z.0 (parent_text p)))))) R (gives_look p) (λ z at.
      leaves_then (refuse (put_refusal z.0 z.1 (length bytes))) (λ _. put_refusal z.0 z.1 (length bytes) ≡ None) (λ f. pay units >>= (λ u. number >>= (λ n. change p (Some (File bytes n)) (stamped z.0 (parent_text p))))) R (gives_refuse (put_refusal z.0 z.1 (length bytes))) (λ _ free.
      leaves_then (pay units) (λ _. Unit {0}) (λ u. number >>= (λ n. change p (Some (File bytes n)) (stamped z.0 (parent_text p)))) R (gives_pay units) (λ _ _.
      leaves_then number (λ _. Unit {0}) (λ n. change p (Some (File bytes n)) (stamped z.0 (parent_text p))) R gives_number (λ n _ w same a e.
      let c = leaves_change p (Some (File bytes n)) (stamped z.0 (parent_text p)) w same a e in
      (File bytes n, refl, (stamped z.0 (parent_text p), c.0, c.1, stamped_by z.0 p), (length bytes, subst (λ (y : Spot). put_refusal y.0 y.1 (length bytes) ≡ None) at free))))))

  pub leaves_put : NoLinks s d → (p bytes : List ℕ) → Leaves (put p bytes) (Fresh p (λ node. content_of (Some node) ≡ Some bytes))
  unfolding put
  leaves_put none p bytes = leaves_at true p (λ q n. put_at q n bytes) (Fresh p (λ node. content_of (Some node) ≡ Some bytes)) (led_plain s d none true p) (put_left p 0 bytes)

  place_left : (p : List ℕ) (m : ℕ) (bytes : List ℕ) (stamp : ℕ) → Leaves (place_at p m bytes stamp) (Fresh p (λ node. (content_of (Some node) ≡ Some bytes) × (stamp_of (Some node) ≡ Some stamp)))
  unfolding place_at
  place_left p m bytes stamp =
      let R = Fresh p (λ node. (content_of (Some node) ≡ Some bytes) × (stamp_of (Some node) ≡ Some stamp)) in
      let units = blocks (length bytes) + m in
      leaves_then (look p) (λ z. z ≡ spot p) (λ z. refuse (put_refusal z.0 z.1 (length bytes)) >>= (λ f. pay units >>= (λ u. change p (Some (File bytes stamp)) (parent_text p)))) R (gives_look p) (λ z at.
      leaves_then (refuse (put_refusal z.0 z.1 (length bytes))) (λ _. put_refusal z.0 z.1 (length bytes) ≡ None) (λ f. pay units >>= (λ u. change p (Some (File bytes stamp)) (parent_text p))) R (gives_refuse (put_refusal z.0 z.1 (length bytes))) (λ _ free.
      leaves_then (pay units) (λ _. Unit {0}) (λ u. change p (Some (File bytes stamp)) (parent_text p)) R (gives_pay units) (λ _ _ w same a e.
      let c = leaves_change p (Some (File bytes stamp)) (parent_text p) w same a e in
      (File bytes stamp, (refl, refl), (parent_text p, c.0, c.1, inr refl), (length bytes, subst (λ (y : Spot). put_refusal y.0 y.1 (length bytes) ≡ None) at free)))))

  pub leaves_place : NoLinks s d → (p bytes : List ℕ) (stamp : ℕ) → Leaves (place p bytes stamp) (Fresh p (λ node. (content_of (Some node) ≡ Some bytes) × (stamp_of (Some node) ≡ Some stamp)))
  unfolding place
  leaves_place none p bytes stamp = leaves_at false p (λ q n. place_at q n bytes stamp) (Fresh p (λ node. (content_of (Some node) ≡ Some bytes) × (stamp_of (Some node) ≡ Some stamp))) (led_plain s d none false p) (place_left p 0 bytes stamp)

  -- a directory above, of which nothing stands there but a directory
  is_above : (p : List ℕ) (o above : Option (List ℕ)) → o ≡ parent_text p → ((a : Kind) → option_map (kind_there s d) o ≡ Some a → a ≡ kind.Dir) → (above ≡ None) ⊎ (above ≡ o) → IsAbove tree p above
  is_above p o None e dir h = tt
  is_above p None (Some q) e dir (inl h) = absurd cc
  is_above p None (Some q) e dir (inr h) = absurd cc
  is_above p (Some r) (Some q) e dir (inl h) = absurd cc
  is_above p (Some r) (Some q) e dir (inr h) = let same : q ≡ r = cc in (sym e ∙ ap Some (sym same), ap (kind_there s d) same ∙ dir (kind_there s d r) refl)

  above_up : (p : List ℕ) (above : Option (List ℕ)) → IsAbove tree p above → (q : List ℕ) → above ≡ Some q → parent_text p ≡ Some q
  above_up p None h q e = absurd cc
  above_up p (Some r) h q e = h.0 ∙ e

  pub record Effect (p : List ℕ) (c : Option Node) (x : Changes) : Type 0 where
    pub now : get (laid_over x s.tree) p ≡ c
    pub others : OthersStay p tree (laid_over x s.tree)

  pub effect : (p : List ℕ) (c : Option Node) (above : Option (List ℕ)) (n : ℕ) (x : Changes) → x ≡ becomes p c above n d → IsAbove tree p above → Effect p c x
  effect p c above n x is up = subst (Effect p c) (sym is) (record { now = becomes_here s.tree d p c above n (above_up p above up); others = becomes_others s.tree d p c above n up })

  pub fresh_effect : (p : List ℕ) (P : Node → Type 0) (x : Changes) → Fresh p P x → (node : Node) × P node × Effect p (Some node) x × (kind_there s d p ≢ kind.Dir)
  fresh_effect p P x (node, so, (above, n, is, under), (size, free)) =
      let k = no_dir (kind_there s d p) (option_map (kind_there s d) (parent_text p)) size free in
      (node, so, effect p (Some node) above n x is (is_above p (parent_text p) above refl k.1 under), k.0)

  -- ---- make_dir

  abbrev pub Made : List ℕ → Changes → Type 0
  Made p x = (n : ℕ) × (m : ℕ) × (x ≡ becomes p (Some (Dir m)) (parent_text p) n d) × (dir_refusal (kind_there s d p) (option_map (kind_there s d) (parent_text p)) ≡ None)

  make_left : (p : List ℕ) (m : ℕ) → Leaves (make_dir_at p m) (Made p)
  unfolding make_dir_at
  make_left p m =
      leaves_then (look p) (λ z. z ≡ spot p) (λ z. refuse (dir_refusal z.0 z.1) >>= (λ f. pay m >>= (λ u. number >>= (λ n. change p (Some (Dir n)) (parent_text p))))) (Made p) (gives_look p) (λ z at.
      leaves_then (refuse (dir_refusal z.0 z.1)) (λ _. dir_refusal z.0 z.1 ≡ None) (λ f. pay m >>= (λ u. number >>= (λ n. change p (Some (Dir n)) (parent_text p)))) (Made p) (gives_refuse (dir_refusal z.0 z.1)) (λ _ free.
      leaves_then (pay m) (λ _. Unit {0}) (λ u. number >>= (λ n. change p (Some (Dir n)) (parent_text p))) (Made p) (gives_pay m) (λ _ _.
      leaves_then number (λ _. Unit {0}) (λ n. change p (Some (Dir n)) (parent_text p)) (Made p) gives_number (λ n _ w same a e.
      let c = leaves_change p (Some (Dir n)) (parent_text p) w same a e in
      (c.0, n, c.1, subst (λ (y : Spot). dir_refusal y.0 y.1 ≡ None) at free)))))

  pub leaves_make : NoLinks s d → (p : List ℕ) → Leaves (make_dir p) (Made p)
  unfolding make_dir
  leaves_make none p = leaves_at false p make_dir_at (Made p) (led_plain s d none false p) (make_left p 0)

  pub was_absent : (k : Kind) (o : Option Kind) → dir_refusal k o ≡ None → (k ≡ kind.Absent) × ((a : Kind) → o ≡ Some a → a ≡ kind.Dir)
  was_absent kind.File o e = absurd cc
  was_absent kind.Dir o e = absurd cc
  was_absent kind.Link o e = absurd cc
  was_absent kind.Absent (Some kind.Link) e = absurd cc
  was_absent kind.Absent None e = absurd cc
  was_absent kind.Absent (Some kind.Absent) e = absurd cc
  was_absent kind.Absent (Some kind.File) e = absurd cc
  was_absent kind.Absent (Some kind.Dir) e = (refl, λ a h. (let same : kind.Dir ≡ a = cc in sym same))

  pub made_effect : (p : List ℕ) (x : Changes) → Made p x → (m : ℕ) × Effect p (Some (Dir m)) x × (kind_there s d p ≡ kind.Absent)
  made_effect p x (n, m, is, free) =
      let k = was_absent (kind_there s d p) (option_map (kind_there s d) (parent_text p)) free in
      (m, effect p (Some (Dir m)) (parent_text p) n x is (is_above p (parent_text p) (parent_text p) refl k.1 (inr refl)), k.0)

  -- ---- remove

  abbrev pub Taken : List ℕ → List ℕ → Changes → Type 0
  Taken p above x = (n : ℕ) × (x ≡ becomes p None (Some above) n d)

  pub leaves_take : (p above : List ℕ) (m : ℕ) → Leaves (take_away p above m) (Taken p above)
  unfolding take_away
  leaves_take p above m = leaves_then (pay m) (λ _. Unit {0}) (λ u. change p None (Some above)) (Taken p above) (gives_pay m) (λ _ _. leaves_change p None (Some above))

  leaves_remove_by : (k : Kind) (p above : List ℕ) (m : ℕ) → Leaves (remove_by k p above m) (λ x. Taken p above x × (k ≢ kind.Absent))
  unfolding fail remove_dir
  leaves_remove_by kind.Absent p above m = λ w same a e. absurd cc
  leaves_remove_by kind.File p above m = λ w same a e. (leaves_take p above m w same a e, λ x. cc)
  leaves_remove_by kind.Link p above m = λ w same a e. (leaves_take p above m w same a e, λ x. cc)
  leaves_remove_by kind.Dir p above m =
      leaves_then (names_below p) (λ ns. ns ≡ names_seen s d p) (λ ns. refuse (names_refusal ns) >>= (λ f. take_away p above m)) (λ x. Taken p above x × (kind.Dir ≢ kind.Absent)) (gives_names_below s d p) (λ ns _.
      leaves_then (refuse (names_refusal ns)) (λ _. names_refusal ns ≡ None) (λ f. take_away p above m) (λ x. Taken p above x × (kind.Dir ≢ kind.Absent)) (gives_refuse (names_refusal ns)) (λ _ _ w same a e. (leaves_take p above m w same a e, λ x. cc)))

  abbrev pub Removed : List ℕ → Changes → Type 0
  Removed p x = (above : List ℕ) × (parent_text p ≡ Some above) × Taken p above x × (kind_there s d p ≢ kind.Absent)

  leaves_under : (p : List ℕ) (m : ℕ) (o : Option (List ℕ)) → parent_text p ≡ o → Leaves (remove_under o p m) (Removed p)
  unfolding fail
  leaves_under p m None e = λ w same a f. absurd cc
  leaves_under p m (Some above) e = leaves_then (kind_below p) (λ k. k ≡ kind_there s d p) (λ k. remove_by k p above m) (Removed p) (gives_kind_below s d p) (λ k is w same a f.
      let r = leaves_remove_by k p above m w same a f in (above, e, r.0, λ none. r.1 (is ∙ none)))

  -- where no directory above a path is a link
  pub leaves_from : (R : Changes → Type 0) (p : List ℕ) → led_there s d false p ≡ plainly s d p → ((m : ℕ) → Leaves (remove_under (parent_text p) p m) R) → Leaves (remove p) R
  unfolding remove fail
  leaves_from R p plain h = leaves_then ready (λ _. Unit {0}) (λ r. remove_from (parent_text p) p) R gives_ready (λ _ _. by_parent (parent_text p))
    where
      by_parent : (o : Option (List ℕ)) → Leaves (remove_from o p) R
      by_parent None = λ w same a f. absurd cc
      by_parent (Some above) = leaves_target false p (λ q n. remove_under (parent_text q) q n) R plain (h 0)

  pub leaves_remove_plain : (p : List ℕ) → led_there s d false p ≡ plainly s d p → Leaves (remove p) (Removed p)
  leaves_remove_plain p plain = leaves_from (Removed p) p plain (λ m. leaves_under p m (parent_text p) refl)

  pub leaves_remove : NoLinks s d → (p : List ℕ) → Leaves (remove p) (Removed p)
  leaves_remove none p = leaves_remove_plain p (led_plain s d none false p)

  pub some_there : (a : Option Node) → kind_of a ≢ kind.Absent → IsSome a
  some_there None h = absurd (h refl)
  some_there (Some n) h = refl

  pub removed_gone : (p : List ℕ) (x : Changes) → Removed p x → (get (laid_over x s.tree) p ≡ None) × (kind_there s d p ≢ kind.Absent)
  removed_gone p x (above, up, (n, is), there) =
      (ap (λ (y : Changes). get (laid_over y s.tree) p) is ∙ becomes_here s.tree d p None (Some above) n (λ q e. up ∙ e), there)

  pub removed_others : (p : List ℕ) (x : Changes) → IsTree tree → Removed p x → OthersStay p tree (laid_over x s.tree)
  removed_others p x whole (above, up, (n, is), there) =
      subst (λ (y : Changes). OthersStay p tree (laid_over y s.tree)) (sym is) (becomes_others s.tree d p None (Some above) n (up, whole.parents p above (some_there (get tree p) there) up))
