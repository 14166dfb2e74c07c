-- What is seen at a path on a state, and that the changes of `put`, `place` and `make_dir` leave a
-- tree.
use Rattle.std.proofs.Common.{◌≡◌, ◌≢◌, ℕ, ◌+◌, ◌^◌, ◌≤◌, true, List, ◌++◌, length, Option, Some, None, Result, Ok, Err, refl, sym, ap, subst, ◌∙◌, ◌⊎◌, inl, inr, arith}
use Rattle.std.specs.Prelude.{IfSome, IfErr, OnErr, OnOk}
use Rattle.std.specs.Option.{option_map}
use Rattle.std.specs.FinMap.{get}
use Rattle.em_path.specs.Paths.{IsPath, parent_text}
use Rattle.em_tree.specs.declared.node.Kind.{Kind}
use Rattle.em_tree.specs.declared.node.Kind.TheVariants as kind
use Rattle.em_tree.specs.declared.node.Node.{Node}
use Rattle.em_tree.specs.declared.question.Entry.{Entry}
use Rattle.em_tree.specs.declared.state.State.{State}
use Rattle.em_tree.specs.Answers.{Agrees}
use Rattle.em_tree.specs.Trees.{Table, Changes, IsTree, kind_of, laid_over}
use Rattle.em_tree.proofs.Laying.{over}
use Rattle.em_tree.proofs.Lawful.{get-laid_over}
use Rattle.em_view.specs.declared.no.DeskNo.{DeskNo}
use Rattle.em_view.specs.declared.no.DeskNo.TheVariants as no
use Rattle.em_view.specs.declared.no.FileNo.{FileNo}
use Rattle.em_view.specs.Actions.{Workspace, snapshot, Action, go_on, ◌>>=◌, done, mine, ask}
use Rattle.em_view.specs.Performs.{DeskState, Told, Performs}
use Rattle.em_view.specs.Held.{Fits, NamesPaths, IsSoundDesk}
use Rattle.em_view.specs.Rows.{is_memory, kind_by, kind_below, look_by, look, above_refusal, or_else, size_refusal, put_refusal, dir_refusal, stamped, becomes, after_change, change, number, change_number}
use Rattle.em_view.proofs.Performing.{IsSameJob, itself, snapshot_agrees, act, pure}
use Rattle.em_view.proofs.Asking.{agreed, fits_grown}
use Rattle.em_view.proofs.Fitting.{tree_put, not_above}

-- ---- what is seen

module _ (s : State) where
  seen : (w : Workspace) (p : List ℕ) (m : Option (Option Node)) (n : Option Node) → over m (get s.tree p) ≡ n → ((kind_by m p (snapshot s) w).0 ≡ Ok (kind_of n)) × ((kind_by m p (snapshot s) w).1.changes ≡ w.changes)
  unfolding done ask ◌>>=◌
  seen w p None n e = (ap (λ (x : Option Node). let r : Result Kind DeskNo = Ok (kind_of x) in r) e, refl)
  seen w p (Some c) n e = (ap (λ (x : Option Node). let r : Result Kind DeskNo = Ok (kind_of x) in r) e, refl)

  -- on a state the kind is that in the tree with the changes laid over it
  pub seen_kind : (w : Workspace) (p : List ℕ) → ((kind_below p (snapshot s) w).0 ≡ Ok (kind_of (get (laid_over w.changes s.tree) p))) × ((kind_below p (snapshot s) w).1.changes ≡ w.changes)
  unfolding kind_below mine ◌>>=◌
  seen_kind w p = seen w p (get w.changes p) (get (laid_over w.changes s.tree) p) (sym (get-laid_over w.changes s.tree p))

abbrev pub kind_in : Table → List ℕ → Kind
kind_in t q = kind_of (get t q)

-- a path's kind and its parent's
abbrev pub Spot : Type 0
Spot = Kind × Option Kind

abbrev pub spot_in : Table → List ℕ → Spot
spot_in t p = (kind_in t p, option_map (kind_in t) (parent_text p))

module _ (s : State) where
  spotted : (w : Workspace) (t : Table) (k : Kind) (o : Option (List ℕ)) → laid_over w.changes s.tree ≡ t → (look_by o k (snapshot s) w).0 ≡ Ok (k, option_map (kind_in t) o)
  unfolding done ◌>>=◌
  spotted w t k None e = refl
  spotted w t k (Some q) e =
      let b = seen_kind s w q in
      let at : Result Kind DeskNo → Result Spot DeskNo = λ r. (go_on r (kind_below q (snapshot s) w).1 (λ (a : Kind). done (k, Some a)) (snapshot s)).0 in
      ap at b.0 ∙ ap (λ (u : Table). let r : Result Spot DeskNo = Ok (k, Some (kind_in u q)) in r) e

  pub looked : (w : Workspace) (p : List ℕ) → (look p (snapshot s) w).0 ≡ Ok (spot_in (laid_over w.changes s.tree) p)
  unfolding look ◌>>=◌
  looked w p =
      let b = seen_kind s w p in
      ap (λ (r : Result Kind DeskNo). (go_on r (kind_below p (snapshot s) w).1 (λ (k : Kind). look_by (parent_text p) k) (snapshot s)).0) b.0
      ∙ spotted (kind_below p (snapshot s) w).1 (laid_over w.changes s.tree) (kind_of (get (laid_over w.changes s.tree) p)) (parent_text p) (ap (λ (d : Changes). laid_over d s.tree) b.1)

-- what an action gives on a state that agrees with what was answered since
pub on_snapshot : {V A : Type 0} {tells : V → Told} {d e : DeskState V} {a : A} {m : Action DeskNo A} (s : State) → Agrees s e.usage → Performs is_memory tells d e (Ok a) m → ((m (snapshot s) d.work).0 ≡ Ok a) × Agrees s d.usage
on_snapshot {A = A} {d = d} {e = e} s all h =
    let both = agreed d.usage h.grows.entries e.usage h.grows.grew s all in
    (ap (λ (z : Result A DeskNo × Workspace). z.0) (h.plain refl (snapshot s) (snapshot_agrees (length d.work.asked) s h.grows.entries both.1)), both.0)

module _ {V : Type 0} {tells : V → Told} where
  -- a state that agrees is one on which the spot was seen
  pub spot_seen : (d e : DeskState V) (spot : Spot) (p : List ℕ) → Performs is_memory tells d e (Ok spot) (look p) → (s : State) → Agrees s e.usage → (spot ≡ spot_in (laid_over d.work.changes s.tree) p) × Agrees s d.usage
  spot_seen d e spot p h s all =
      let on = on_snapshot s all h in
      let same : ◌≡◌ {A = Result Spot DeskNo} (Ok spot) (Ok (spot_in (laid_over d.work.changes s.tree) p)) = sym on.0 ∙ looked s d.work p in
      (cc, on.1)

-- ---- what is allowed

-- the directory above is there
record Under (t : Table) (o : Option (List ℕ)) : Type 0 where
  dir : List ℕ
  is : o ≡ Some dir
  stands : kind_of (get t dir) ≡ kind.Dir

stands_dir : (t : Table) (q : List ℕ) (k : Kind) → kind_of (get t q) ≡ k → (f : Option FileNo) → or_else (above_refusal k) f ≡ None → Under t (Some q)
stands_dir t q kind.Absent e f h = absurd (cc)
stands_dir t q kind.File e f h = absurd (cc)
stands_dir t q kind.Dir e f h = record { dir = q; is = refl; stands = e }
stands_dir t q kind.Link e f h = absurd (cc)

may_put : (t : Table) (o : Option (List ℕ)) (k : Kind) (size : ℕ) → put_refusal k (option_map (kind_in t) o) size ≡ None → Under t o × (k ≡ kind.Dir → ⊥)
may_put t None k size h = absurd (cc)
may_put t (Some q) kind.Dir size h = absurd (cc)
may_put t (Some q) kind.Absent size h = (stands_dir t q (kind_of (get t q)) refl (size_refusal size) h, λ e. cc)
may_put t (Some q) kind.File size h = (stands_dir t q (kind_of (get t q)) refl (size_refusal size) h, λ e. cc)
may_put t (Some q) kind.Link size h = (stands_dir t q (kind_of (get t q)) refl (size_refusal size) h, λ e. cc)

no_more : (f : Option FileNo) → f ≡ None → or_else f None ≡ None
no_more None e = refl
no_more (Some f) e = absurd (cc)

may_make : (t : Table) (o : Option (List ℕ)) (k : Kind) → dir_refusal k (option_map (kind_in t) o) ≡ None → Under t o × (k ≡ kind.Dir → ⊥)
may_make t None kind.Absent h = absurd (cc)
may_make t None kind.File h = absurd (cc)
may_make t None kind.Dir h = absurd (cc)
may_make t None kind.Link h = absurd (cc)
may_make t (Some q) kind.Dir h = absurd (cc)
may_make t (Some q) kind.File h = absurd (cc)
may_make t (Some q) kind.Link h = absurd (cc)
may_make t (Some q) kind.Absent h = (stands_dir t q (kind_of (get t q)) refl None (no_more (above_refusal (kind_of (get t q))) h), λ e. cc)

-- ---- what the change leaves

-- the directory that is stamped is none, or the one above
abbrev pub IsAbove : Option (List ℕ) → Option (List ℕ) → Type 0
IsAbove above parent = (above ≡ None) ⊎ (above ≡ parent)

pub stamped_above : (above parent : Option (List ℕ)) (k : Kind) → above ≡ parent → IsAbove (stamped k above) parent
stamped_above above parent kind.Absent e = inr e
stamped_above above parent kind.File e = inl refl
stamped_above above parent kind.Dir e = inl refl
stamped_above above parent kind.Link e = inl refl

fits_in : (t : Table) (d : Changes) (p : List ℕ) (node : Node) (n : ℕ) (above : Option (List ℕ)) → IsTree (laid_over d t) → IsPath p → Under (laid_over d t) (parent_text p) → (kind_of (get (laid_over d t) p) ≡ kind.Dir → ⊥)
    → IsAbove above (parent_text p) → IsTree (laid_over (becomes p (Some node) above n d) t)
fits_in t d p node n above tree path under not_dir up =
    tree_put t d p under.dir node n above tree path under.is under.stands (λ e. absurd (not_dir e)) (elim up [ inl none ↦ inl none | inr same ↦ inr (same ∙ under.is) ])

module _ {V : Type 0} {tells : V → Told} (d e f : DeskState V) (p : List ℕ) (spot : Spot) (above : Option (List ℕ)) (path : IsPath p) (fits : Fits d.usage d.work.changes)
    (h : Performs is_memory tells d e (Ok spot) (look p)) (usage : f.usage ≡ e.usage) (changes : f.work.changes ≡ d.work.changes) (up : IsAbove above (parent_text p)) where
  pub put_fits : (node : Node) (n size : ℕ) → put_refusal spot.0 spot.1 size ≡ None → Fits f.usage (becomes p (Some node) above n f.work.changes)
  put_fits node n size allowed s tree all =
      let is = spot_seen d e spot p h s (subst (λ (us : List Entry). Agrees s us) usage all) in
      let t = laid_over d.work.changes s.tree in
      let may = may_put t (parent_text p) (kind_of (get t p)) size (subst (λ (x : Spot). put_refusal x.0 x.1 size ≡ None) is.0 allowed) in
      subst (λ (c : Changes). IsTree (laid_over (becomes p (Some node) above n c) s.tree)) (sym changes) (fits_in s.tree d.work.changes p node n above (fits s tree is.1) path may.0 may.1 up)

  pub dir_fits : (node : Node) (n : ℕ) → dir_refusal spot.0 spot.1 ≡ None → Fits f.usage (becomes p (Some node) above n f.work.changes)
  dir_fits node n allowed s tree all =
      let is = spot_seen d e spot p h s (subst (λ (us : List Entry). Agrees s us) usage all) in
      let t = laid_over d.work.changes s.tree in
      let may = may_make t (parent_text p) (kind_of (get t p)) (subst (λ (x : Spot). dir_refusal x.0 x.1 ≡ None) is.0 allowed) in
      subst (λ (c : Changes). IsTree (laid_over (becomes p (Some node) above n c) s.tree)) (sym changes) (fits_in s.tree d.work.changes p node n above (fits s tree is.1) path may.0 may.1 up)

-- the path above isn't the path
pub apart : (p : List ℕ) (above : Option (List ℕ)) → IsAbove above (parent_text p) → IfSome above (λ q. p ≢ q)
apart p None up = tt
apart p (Some q) (inl none) = absurd (cc)
apart p (Some q) (inr same) = not_above p q (sym same)

pub above_path : (parent above : Option (List ℕ)) → IfSome parent IsPath → IsAbove above parent → IfSome above IsPath
above_path parent None e up = tt
above_path parent (Some q) e (inl none) = absurd (cc)
above_path parent (Some q) e (inr same) = subst (λ (o : Option (List ℕ)). IfSome o IsPath) (sym same) e

-- ---- the change itself

changed_job : (p : List ℕ) (c : Option Node) (above : Option (List ℕ)) (w : Workspace) → IsSameJob w (after_change p c above w)
changed_job p c above w = record { base = refl; job = refl; given = refl; asked = refl }

module _ {V : Type 0} {tells : V → Told} (d e : DeskState V) (p : List ℕ) (c : Option Node) (above : Option (List ℕ)) where
  pub applied : (r : Result (Unit {0}) DeskNo) → OnOk r (e ≡ record d { work = after_change p c above d.work }) → OnErr r (e ≡ d) → IfErr r (λ x. x ≡ no.NoMemory) → Performs is_memory tells d e r (change p c above)
  unfolding change
  applied (Ok u) ok err only = act (ap (λ (x : DeskState V). x.usage) ok) (ap (λ (x : DeskState V). x.view) ok) (subst (λ (w : Workspace). IsSameJob d.work w) (sym (ap (λ (x : DeskState V). x.work) ok)) (changed_job p c above d.work)) (omega (arith, ap (λ (x : DeskState V). x.work.fuel) ok))
      (λ h o. ap (λ (w : Workspace). let r : Result (Unit {0}) DeskNo × Workspace = (Ok tt, w) in r) (sym (ap (λ (x : DeskState V). x.work) ok)))
  applied (Err x) ok err only = act (ap (λ (y : DeskState V). y.usage) err) (ap (λ (y : DeskState V). y.view) err) (subst (λ (w : Workspace). IsSameJob d.work w) (sym (ap (λ (y : DeskState V). y.work) err)) itself) (omega (arith, ap (λ (y : DeskState V). y.work.fuel) err))
      (λ h. absurd (let yes : is_memory x ≡ true = ap is_memory only in cc))

module _ {V : Type 0} {tells : V → Told} (d : DeskState V) where
  pub numbered : (n : ℕ) → n ≡ change_number d.work.base d.work.job (d.work.count + 1) → Performs is_memory tells d d (Ok n) number
  unfolding number
  numbered n is = pure (λ o. ap (λ (k : ℕ). let r : Result ℕ DeskNo × Workspace = (Ok k, d.work) in r) (sym is))

-- room for one change more, after a unit was paid
pub room_paid : {V : Type 0} (d e : DeskState V) (n : ℕ) → d.work.count + d.work.fuel ≤ d.work.given → e ≡ record d { work = record d.work { fuel = e.work.fuel } } → e.work.fuel + (1 + n) ≡ d.work.fuel → e.work.count + 1 + e.work.fuel ≤ e.work.given
room_paid {V} d e n room paid less = omega (arith, ap (λ (x : DeskState V). x.work.count) paid, ap (λ (x : DeskState V). x.work.given) paid)

-- a desk that was only asked stays sound
pub sound_still : {V : Type 0} (d e : DeskState V) (es : List Entry) → e.work ≡ record d.work { asked = e.work.asked } → e.usage ≡ d.usage ++ es → IsSoundDesk d → IsSoundDesk e
sound_still d e es still grew h = record {
  base = subst (λ n. n ≤ 2 ^ 62) (sym (ap (λ (w : Workspace). w.base) still)) h.base;
  small = subst (λ n. n ≤ 10000000) (sym (ap (λ (w : Workspace). w.given) still)) h.small;
  room = omega (arith, h.room, ap (λ (w : Workspace). w.count) still, ap (λ (w : Workspace). w.fuel) still, ap (λ (w : Workspace). w.given) still);
  fits = subst (λ (c : Changes). Fits e.usage c) (sym (ap (λ (w : Workspace). w.changes) still)) (fits_grown d.usage es e.usage d.work.changes grew h.fits);
  paths = subst (λ (c : Changes). NamesPaths c) (sym (ap (λ (w : Workspace). w.changes) still)) h.paths;
}
