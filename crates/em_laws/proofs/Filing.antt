-- What the file utilities leave, on a state.
use Rattle.std.proofs.Common.{◌≡◌, ◌≢◌, ℕ, ◌+◌, zero, suc, Bool, true, cond, List, Option, Some, None, Result, Ok, Err, refl, sym, ap, subst, ◌∙◌}
use Rattle.std.specs.Prelude.{codes, IsSome}
use Rattle.std.specs.FinMap.{get}
use Rattle.em_base.proofs.Lemmas.{by_cases}
use Rattle.em_path.specs.Paths.{parent_text}
use Rattle.em_tree.specs.declared.node.Kind.{Kind}
use Rattle.em_tree.specs.declared.node.Kind.TheVariants as kind
use Rattle.em_tree.specs.declared.node.Node.{Node}
use Rattle.em_tree.specs.declared.node.Node.TheVariants.{File, Dir, Link}
use Rattle.em_tree.specs.declared.state.State.{State}
use Rattle.em_tree.specs.Trees.{Changes, IsTree, kind_of, stamp_of, content_of, laid_over}
use Rattle.em_tree.proofs.Laying.{over}
use Rattle.em_tree.proofs.Lawful.{get-laid_over}
use Rattle.em_view.specs.declared.no.DeskNo.{DeskNo}
use Rattle.em_view.specs.declared.done.Done.{Done}
use Rattle.em_view.specs.Actions.{Workspace, snapshot, Action, go_on, ◌>>=◌, done, ask, mine, renamed}
use Rattle.em_view.specs.Rows.{blocks, size_of, content_by, content_below, content, content_to, stamp_by, stamp_below, stamp_to, stamp_at, kind_at, link_at, names, put, place, remove, becomes}
use Rattle.em_view.specs.Steps.{Steps, with_state, and_then, own, below}
use Rattle.em_view.specs.Steps as steps
use Rattle.em_utility.specs.declared.operand.OperandNo.{OperandNo}
use Rattle.em_utility.specs.Operands.{refused, at, each}
use Rattle.em_view.specs.declared.no.FileNo.TheVariants as file
use Rattle.em_fileutil.specs.Spots.{told, there_by, there, ending}
use Rattle.em_fileutil.specs.Removing.{remove_child, remove_tree, remove_by, remove_other, remove_past, remove_node, remove_beneath}
use Rattle.em_fileutil.specs.Copying.{copy_file, move_file}
use Rattle.em_laws.specs.Nodes.{tree_seen, AreAlike, OthersStay}
use Rattle.em_laws.proofs.Expanding.{Gives, gives_plainly, gives_kind, gives_link, kind_there, node_there, NoLinks}
use Rattle.em_laws.proofs.Changing.{Leaves, Fresh, fresh_effect, leaves_put, leaves_place, Removed, leaves_remove, removed_gone, becomes_others, elsewhere_else}
use Rattle.em_laws.proofs.Going.{Operand, Removal, Goes, goes_names, goes_ending, Plain, no_link, fresh_plain, plain_same, plain_self, plain_each, plain_rm}

-- ---- contents and stamps

module _ (s : State) (d : Changes) where
  content_seen : (w : Workspace) (p : List ℕ) (m : Option (Option Node)) (n : Option Node) → over m (get s.tree p) ≡ n → ((content_by m p (snapshot s) w).0 ≡ Ok (content_of n)) × ((content_by m p (snapshot s) w).1.changes ≡ w.changes)
  unfolding done ask ◌>>=◌
  content_seen w p None n e = (ap (λ (x : Option Node). let r : Result (Option (List ℕ)) DeskNo = Ok (content_of x) in r) e, refl)
  content_seen w p (Some c) n e = (ap (λ (x : Option Node). let r : Result (Option (List ℕ)) DeskNo = Ok (content_of x) in r) e, refl)

  stamp_seen : (w : Workspace) (p : List ℕ) (m : Option (Option Node)) (n : Option Node) → over m (get s.tree p) ≡ n → ((stamp_by m p (snapshot s) w).0 ≡ Ok (stamp_of n)) × ((stamp_by m p (snapshot s) w).1.changes ≡ w.changes)
  unfolding done ask ◌>>=◌
  stamp_seen w p None n e = (ap (λ (x : Option Node). let r : Result (Option ℕ) DeskNo = Ok (stamp_of x) in r) e, refl)
  stamp_seen w p (Some c) n e = (ap (λ (x : Option Node). let r : Result (Option ℕ) DeskNo = Ok (stamp_of x) in r) e, refl)

  pub gives_content_below : (p : List ℕ) → Gives s d (content_below p) (λ b. b ≡ content_of (node_there s d p))
  unfolding content_below mine ◌>>=◌
  gives_content_below p w same b e =
      let seen = content_seen w p (get w.changes p) (get (laid_over w.changes s.tree) p) (sym (get-laid_over w.changes s.tree p)) in
      let is : b ≡ content_of (get (laid_over w.changes s.tree) p) = (let f : ◌≡◌ {A = Result (Option (List ℕ)) DeskNo} (Ok b) (Ok (content_of (get (laid_over w.changes s.tree) p))) = sym e ∙ seen.0 in cc) in
      (is ∙ ap (λ (c : Changes). content_of (get (laid_over c s.tree) p)) same, seen.1 ∙ same)

  gives_stamp_below : (p : List ℕ) → Gives s d (stamp_below p) (λ b. b ≡ stamp_of (node_there s d p))
  unfolding stamp_below mine ◌>>=◌
  gives_stamp_below p w same b e =
      let seen = stamp_seen w p (get w.changes p) (get (laid_over w.changes s.tree) p) (sym (get-laid_over w.changes s.tree p)) in
      let is : b ≡ stamp_of (get (laid_over w.changes s.tree) p) = (let f : ◌≡◌ {A = Result (Option ℕ) DeskNo} (Ok b) (Ok (stamp_of (get (laid_over w.changes s.tree) p))) = sym e ∙ seen.0 in cc) in
      (is ∙ ap (λ (c : Changes). stamp_of (get (laid_over c s.tree) p)) same, seen.1 ∙ same)

  pub gives_content : NoLinks s d → (p : List ℕ) → Gives s d (content p) (λ b. b ≡ content_of (node_there s d p))
  unfolding content
  gives_content none p = gives_plainly s d none true p content_to (λ b n. blocks (size_of b) + n) (λ b. b ≡ content_of (node_there s d p)) (gives_content_below p)

  pub gives_stamp : NoLinks s d → (p : List ℕ) → Gives s d (stamp_at p) (λ b. b ≡ stamp_of (node_there s d p))
  unfolding stamp_at
  gives_stamp none p = gives_plainly s d none true p stamp_to (λ b n. n) (λ b. b ≡ stamp_of (node_there s d p)) (gives_stamp_below p)

-- ---- steps

module _ (s : State) where
  abbrev pub GivesS : {A : Type 0} → Changes → Steps Done OperandNo A → (A → Type 0) → Type 0
  GivesS {A} d m P = (x : Done) (w : Workspace) → w.changes ≡ d → (r : A × Done) → (m x (snapshot s) w).0 ≡ Ok r → P r.0 × ((m x (snapshot s) w).1.changes ≡ d)

  abbrev pub LeavesS : {A : Type 0} → Changes → Steps Done OperandNo A → (Changes → Type 0) → Type 0
  LeavesS {A} d m R = (x : Done) (w : Workspace) → w.changes ≡ d → (r : A × Done) → (m x (snapshot s) w).0 ≡ Ok r → R (m x (snapshot s) w).1.changes

  pub step_on : {A B : Type 0} (d : Changes) (r : Result (A × Done) (OperandNo × Done)) (w : Workspace) (P : A → Type 0) (k : A → Steps Done OperandNo B) (R : Changes → Type 0) → ((z : A × Done) → r ≡ Ok z → P z.0 × (w.changes ≡ d)) → ((a : A) → P a → LeavesS d (k a) R) →
      (b : B × Done) → (go_on r w (λ z. k z.0 z.1) (snapshot s)).0 ≡ Ok b → R (go_on r w (λ z. k z.0 z.1) (snapshot s)).1.changes
  step_on d (Ok z) w P k R h g b e = let f = h z refl in g z.0 f.0 z.1 w f.1 b e
  step_on d (Err x) w P k R h g b e = absurd cc

  pub then_s : {A B : Type 0} (d : Changes) (m : Steps Done OperandNo A) (P : A → Type 0) (k : A → Steps Done OperandNo B) (R : Changes → Type 0) → GivesS d m P → ((a : A) → P a → LeavesS d (k a) R) → LeavesS d (and_then m k) R
  unfolding and_then ◌>>=◌
  then_s d m P k R h g x w same b e = step_on d (m x (snapshot s) w).0 (m x (snapshot s) w).1 P k R (λ z is. h x w same z is) g b e

  seq_on : {A B : Type 0} (r : Result (A × Done) (OperandNo × Done)) (w : Workspace) (Q : Changes → Type 0) (k : A → Steps Done OperandNo B) (R : Changes → Type 0) → ((z : A × Done) → r ≡ Ok z → Q w.changes) → ((a : A) (c : Changes) → Q c → LeavesS c (k a) R) →
      (b : B × Done) → (go_on r w (λ z. k z.0 z.1) (snapshot s)).0 ≡ Ok b → R (go_on r w (λ z. k z.0 z.1) (snapshot s)).1.changes
  seq_on (Ok z) w Q k R h g b e = g z.0 w.changes (h z refl) z.1 w refl b e
  seq_on (Err x) w Q k R h g b e = absurd cc

  pub seq_s : {A B : Type 0} (d : Changes) (m : Steps Done OperandNo A) (Q : Changes → Type 0) (k : A → Steps Done OperandNo B) (R : Changes → Type 0) → LeavesS d m Q → ((a : A) (c : Changes) → Q c → LeavesS c (k a) R) → LeavesS d (and_then m k) R
  unfolding and_then ◌>>=◌
  seq_s d m Q k R h g x w same b e = seq_on (m x (snapshot s) w).0 (m x (snapshot s) w).1 Q k R (λ z is. h x w same z is) g b e

  pub any_s : {A B : Type 0} (d : Changes) (m : Steps Done OperandNo A) (k : A → Steps Done OperandNo B) (R : Changes → Type 0) → ((a : A) (c : Changes) → LeavesS c (k a) R) → LeavesS d (and_then m k) R
  any_s d m k R g = seq_s d m (λ _. Unit {0}) k R (λ x w same r e. tt) (λ a c _. g a c)

  pub told_ok : {A : Type 0} (f : DeskNo → OperandNo) (x : Done) (q : Result A DeskNo) (r : A × Done) → with_state (renamed f q) x ≡ Ok r → q ≡ Ok r.0
  told_ok {A} f x (Ok a) r e = let same : ◌≡◌ {A = A × Done} (a, x) r = cc in ap (λ (z : A × Done). (let q : Result A DeskNo = Ok z.0 in q)) same
  told_ok f x (Err y) r e = absurd cc

  pub at_gives : {A : Type 0} (d : Changes) (name : List ℕ) (m : Action DeskNo A) (P : A → Type 0) → Gives s d m P → GivesS d (at name m) P
  unfolding at below
  at_gives d name m P h x w same r e = h w same r.0 (told_ok (refused name) x (m (snapshot s) w).0 r e)

  pub at_leaves : {A : Type 0} (d : Changes) (name : List ℕ) (m : Action DeskNo A) (R : Changes → Type 0) → Leaves s d m R → LeavesS d (at name m) R
  unfolding at below
  at_leaves d name m R h x w same r e = h w same r.0 (told_ok (refused name) x (m (snapshot s) w).0 r e)

pub there_ok : {A : Type 0} (o : Operand) (x : Done) (q : Result (Option A) DeskNo) (r : A × Done) → with_state (there_by o q) x ≡ Ok r → q ≡ Ok (Some r.0)
there_ok {A} o x (Ok (Some a)) r e = let same : ◌≡◌ {A = A × Done} (a, x) r = cc in ap (λ (z : A × Done). (let q : Result (Option A) DeskNo = Ok (Some z.0) in q)) same
there_ok o x (Ok None) r e = absurd cc
there_ok o x (Err y) r e = absurd cc

pub there_gives : {A : Type 0} (s : State) (d : Changes) (o : Operand) (m : Action DeskNo (Option A)) (P : Option A → Type 0) → Gives s d m P → GivesS s d (there o m) (λ a. P (Some a))
unfolding there
there_gives s d o m P h x w same r e = h w same (Some r.0) (there_ok o x (m (snapshot s) w).0 r e)

-- ---- rm

module _ (s : State) where
  abbrev Gone : List ℕ → Changes → Type 0
  Gone p x = get (laid_over x s.tree) p ≡ None

  none_there : (a : Option Node) → kind_of a ≡ kind.Absent → a ≡ None
  none_there None e = refl
  none_there (Some (File body stamp)) e = absurd cc
  none_there (Some (Dir stamp)) e = absurd cc
  none_there (Some (Link text stamp)) e = absurd cc

  -- no links are left where none were
  pub plain_s : {A : Type 0} (d : Changes) (m : Steps Done OperandNo A) → NoLinks s d → Goes s (Plain s) m → LeavesS s d m (NoLinks s)
  plain_s d m none g x w same r e = g x w (plain_same s d w.changes same none)

  taken_away : (d : Changes) (o : Operand) → NoLinks s d → LeavesS s d (at o.name (remove o.path)) (Gone o.path)
  taken_away d o none x w same r e = (removed_gone s d o.path (at o.name (remove o.path) x (snapshot s) w).1.changes (at_leaves s d o.name (remove o.path) (Removed s d o.path) (leaves_remove s d none o.path) x w same r e)).0

  module _ (deeper : Operand → Steps Done OperandNo (Unit {0})) (plain : (o : Operand) → Goes s (Plain s) (deeper o)) (o : Operand) where
    rm_tree : (d : Changes) → NoLinks s d → LeavesS s d (remove_tree deeper o) (Gone o.path)
    unfolding remove_tree
    rm_tree d none =
        let inner = λ (inside : List (List ℕ)). ending (each (codes "rm") (remove_child deeper o) inside) in
        seq_s s d (there o (names o.path)) (NoLinks s) (λ inside. and_then (inner inside) (λ u. at o.name (remove o.path))) (Gone o.path) (plain_s d (there o (names o.path)) none (goes_names s (Plain s) (plain_self s) o o.path)) (λ inside c bare.
        seq_s s c (inner inside) (NoLinks s) (λ u. at o.name (remove o.path)) (Gone o.path) (plain_s c (inner inside) bare (goes_ending s (Plain s) (each (codes "rm") (remove_child deeper o) inside) (plain_each s deeper plain o inside))) (λ u b empty. taken_away b o empty))

    rm_by : (how : Removal) (k : Kind) (d : Changes) → NoLinks s d → k ≡ kind_there s d o.path → LeavesS s d (remove_by deeper how o k) (Gone o.path)
    unfolding own steps.refuse
    rm_by how kind.Absent d none is = λ x w same r e. ap (λ (c : Changes). get (laid_over c s.tree) o.path) same ∙ none_there (get (laid_over d s.tree) o.path) (sym is)
    rm_by how kind.File d none is = taken_away d o none
    rm_by how kind.Link d none is = taken_away d o none
    rm_by how kind.Dir d none is = by_cases how.recursive (λ t. LeavesS s d (cond t (remove_tree deeper o) (steps.refuse (told o file.IsDir))) (Gone o.path))
        (λ _. rm_tree d none)
        (λ _ x w same r e. absurd cc)

    rm_other : (how : Removal) (d : Changes) → NoLinks s d → LeavesS s d (remove_other deeper how o) (Gone o.path)
    unfolding remove_other
    rm_other how d none = then_s s d (at o.name (kind_at o.path)) (λ k. k ≡ kind_there s d o.path) (λ k. remove_by deeper how o k) (Gone o.path) (at_gives s d o.name (kind_at o.path) (λ k. k ≡ kind_there s d o.path) (gives_kind s d none o.path)) (λ k is. rm_by how k d none is)

    rm_node : (how : Removal) (d : Changes) → NoLinks s d → LeavesS s d (remove_node deeper how o) (Gone o.path)
    unfolding remove_node
    rm_node how d none = then_s s d (at o.name (link_at o.path)) (λ l. l ≡ None) (λ l. remove_past deeper how o l) (Gone o.path) (at_gives s d o.name (link_at o.path) (λ l. l ≡ None) (gives_link s d none o.path)) (λ l is.
        subst (λ (z : Option (List ℕ)). LeavesS s d (remove_past deeper how o z) (Gone o.path)) (sym is) (rm_other how d none))

  rm_beneath : (how : Removal) (n : ℕ) (o : Operand) (d : Changes) → NoLinks s d → LeavesS s d (remove_beneath how n o) (Gone o.path)
  unfolding steps.refuse
  rm_beneath how zero o d none = λ x w same r e. absurd cc
  rm_beneath how (suc n) o d none = rm_node (remove_beneath how n) (plain_rm s how n) o how d none

  -- ---- cp

  abbrev pub HasBytes : List ℕ → Node → Type 0
  HasBytes bytes node = content_of (Some node) ≡ Some bytes

  abbrev pub Copied : Changes → List ℕ → List ℕ → Changes → Type 0
  Copied d p q x = (bytes : List ℕ) × (content_of (node_there s d p) ≡ Some bytes) × Fresh s d q (HasBytes bytes) x

  pub copies : (d : Changes) (a b : Operand) → NoLinks s d → LeavesS s d (copy_file a b) (Copied d a.path b.path)
  unfolding copy_file
  copies d a b none = then_s s d (there a (content a.path)) (λ bytes. Some bytes ≡ content_of (node_there s d a.path)) (λ bytes. at b.name (put b.path bytes)) (Copied d a.path b.path)
      (there_gives s d a (content a.path) (λ o. o ≡ content_of (node_there s d a.path)) (gives_content s d none a.path)) (λ bytes is x w same r e.
      (bytes, sym is, at_leaves s d b.name (put b.path bytes) (Fresh s d b.path (HasBytes bytes)) (leaves_put s d none b.path bytes) x w same r e))

  copied_bytes : (d : Changes) (p q : List ℕ) (x : Changes) → Copied d p q x → content_of (get (laid_over x s.tree) q) ≡ content_of (node_there s d p)
  copied_bytes d p q x (bytes, had, fresh) = let f = fresh_effect s d q (HasBytes bytes) x fresh in ap content_of f.2.now ∙ f.1 ∙ sym had

  copied_others : (d : Changes) (p q : List ℕ) (x : Changes) → Copied d p q x → OthersStay q (laid_over d s.tree) (laid_over x s.tree)
  copied_others d p q x (bytes, had, fresh) = (fresh_effect s d q (HasBytes bytes) x fresh).2.others

  -- ---- mv

  abbrev HasBoth : List ℕ → ℕ → Node → Type 0
  HasBoth bytes stamp node = (content_of (Some node) ≡ Some bytes) × (stamp_of (Some node) ≡ Some stamp)

  abbrev Moved : Changes → List ℕ → List ℕ → Changes → Type 0
  Moved d p q x = (bytes : List ℕ) × (stamp : ℕ) × (content_of (node_there s d p) ≡ Some bytes) × (stamp_of (node_there s d p) ≡ Some stamp)
      × ((c : Changes) × Fresh s d q (HasBoth bytes stamp) c × Removed s c p x)

  moves : (d : Changes) (a b : Operand) → NoLinks s d → LeavesS s d (move_file a b) (Moved d a.path b.path)
  unfolding move_file
  moves d a b none =
      then_s s d (there a (content a.path)) (λ bytes. Some bytes ≡ content_of (node_there s d a.path)) (λ bytes. and_then (there a (stamp_at a.path)) (λ stamp. and_then (at b.name (place b.path bytes stamp)) (λ u. at a.name (remove a.path)))) (Moved d a.path b.path)
      (there_gives s d a (content a.path) (λ o. o ≡ content_of (node_there s d a.path)) (gives_content s d none a.path)) (λ bytes had.
      then_s s d (there a (stamp_at a.path)) (λ stamp. Some stamp ≡ stamp_of (node_there s d a.path)) (λ stamp. and_then (at b.name (place b.path bytes stamp)) (λ u. at a.name (remove a.path))) (Moved d a.path b.path)
      (there_gives s d a (stamp_at a.path) (λ o. o ≡ stamp_of (node_there s d a.path)) (gives_stamp s d none a.path)) (λ stamp was.
      seq_s s d (at b.name (place b.path bytes stamp)) (Fresh s d b.path (HasBoth bytes stamp)) (λ u. at a.name (remove a.path)) (Moved d a.path b.path)
      (at_leaves s d b.name (place b.path bytes stamp) (Fresh s d b.path (HasBoth bytes stamp)) (leaves_place s d none b.path bytes stamp)) (λ u c fresh x w same r e.
      (bytes, stamp, sym had, sym was, (c, fresh, at_leaves s c a.name (remove a.path) (Removed s c a.path) (leaves_remove s c (fresh_plain s d b.path (HasBoth bytes stamp) c (λ node so. no_link s node bytes so.0) none fresh) a.path) x w same r e)))))

  record Move (d : Changes) (p q : List ℕ) (x : Changes) : Type 0 where
    bytes : content_of (get (laid_over x s.tree) q) ≡ content_of (node_there s d p)
    stamp : stamp_of (get (laid_over x s.tree) q) ≡ stamp_of (node_there s d p)
    gone : get (laid_over x s.tree) p ≡ None
    others : (k : List ℕ) → k ≢ p → k ≢ q → AreAlike (node_there s d k) (get (laid_over x s.tree) k)

  has_some : (a : Option Node) (bytes : List ℕ) → content_of a ≡ Some bytes → IsSome a
  has_some None bytes e = absurd cc
  has_some (Some n) bytes e = refl

  moved : (d : Changes) (p q : List ℕ) (x : Changes) → IsTree (laid_over d s.tree) → p ≢ q → Moved d p q x → Move d p q x
  moved d p q x whole differ (bytes, stamp, had, was, (c, fresh, removed)) =
      let f = fresh_effect s d q (HasBoth bytes stamp) c fresh in
      let above = removed.0 in
      let up : parent_text p ≡ Some above = removed.1 in
      let n = removed.2.0 in
      let is : x ≡ becomes p None (Some above) n c = removed.2.1 in
      let dir : kind_of (node_there s d above) ≡ kind.Dir = whole.parents p above (has_some (node_there s d p) bytes had) up in
      let apart : above ≢ q = λ same. f.3 (ap (λ (k : List ℕ). kind_of (node_there s d k)) (sym same) ∙ dir) in
      let dir_then : kind_of (get (laid_over c s.tree) above) ≡ kind.Dir = sym (f.2.others above apart).0 ∙ dir in
      let rest : OthersStay p (laid_over c s.tree) (laid_over x s.tree) = subst (λ (y : Changes). OthersStay p (laid_over c s.tree) (laid_over y s.tree)) (sym is) (becomes_others s.tree c p None (Some above) n (up, dir_then)) in
      let at_q : get (laid_over x s.tree) q ≡ Some f.0 = ap (λ (y : Changes). get (laid_over y s.tree) q) is ∙ elsewhere_else s.tree c p None above n q (λ e. differ (sym e)) (λ e. apart (sym e)) ∙ f.2.now in
      record {
        bytes = ap content_of at_q ∙ f.1.0 ∙ sym had;
        stamp = ap stamp_of at_q ∙ f.1.1 ∙ sym was;
        gone = (removed_gone s c p x removed).0;
        others = λ k not_p not_q. (let one = f.2.others k not_q in let two = rest k not_p in (one.0 ∙ two.0, one.1 ∙ two.1));
      }

-- ---- the laws

abbrev pub operand : List ℕ → List ℕ → Operand
operand name p = record { name = name; path = p }

abbrev removal : Bool → Bool → Removal
removal force recursive = record { force = force; recursive = recursive }

pub rm_law : (s : State) (w : Workspace) → NoLinks s w.changes → (d : Done) (force recursive : Bool) (n : ℕ) (name p : List ℕ) (r : Unit {0} × Done) → (remove_beneath (removal force recursive) n (operand name p) d (snapshot s) w).0 ≡ Ok r → get (tree_seen s (remove_beneath (removal force recursive) n (operand name p) d (snapshot s) w).1) p ≡ None
rm_law s w none d force recursive n name p r e = rm_beneath s (removal force recursive) n (operand name p) w.changes none d w refl r e

pub cp_bytes : (s : State) (w : Workspace) → NoLinks s w.changes → (d : Done) (from to p q : List ℕ) (r : Unit {0} × Done) → (copy_file (operand from p) (operand to q) d (snapshot s) w).0 ≡ Ok r → content_of (get (tree_seen s (copy_file (operand from p) (operand to q) d (snapshot s) w).1) q) ≡ content_of (get (tree_seen s w) p)
cp_bytes s w none d from to p q r e = copied_bytes s w.changes p q (copy_file (operand from p) (operand to q) d (snapshot s) w).1.changes (copies s w.changes (operand from p) (operand to q) none d w refl r e)

pub cp_others : (s : State) (w : Workspace) → NoLinks s w.changes → (d : Done) (from to p q : List ℕ) (r : Unit {0} × Done) → (copy_file (operand from p) (operand to q) d (snapshot s) w).0 ≡ Ok r → OthersStay q (tree_seen s w) (tree_seen s (copy_file (operand from p) (operand to q) d (snapshot s) w).1)
cp_others s w none d from to p q r e = copied_others s w.changes p q (copy_file (operand from p) (operand to q) d (snapshot s) w).1.changes (copies s w.changes (operand from p) (operand to q) none d w refl r e)

mv_all : (s : State) (w : Workspace) → NoLinks s w.changes → (d : Done) (from to p q : List ℕ) (r : Unit {0} × Done) → IsTree (tree_seen s w) → p ≢ q → (move_file (operand from p) (operand to q) d (snapshot s) w).0 ≡ Ok r → Move s w.changes p q (move_file (operand from p) (operand to q) d (snapshot s) w).1.changes
mv_all s w none d from to p q r whole differ e = moved s w.changes p q (move_file (operand from p) (operand to q) d (snapshot s) w).1.changes whole differ (moves s w.changes (operand from p) (operand to q) none d w refl r e)

pub mv_bytes : (s : State) (w : Workspace) → NoLinks s w.changes → (d : Done) (from to p q : List ℕ) (r : Unit {0} × Done) → IsTree (tree_seen s w) → p ≢ q → (move_file (operand from p) (operand to q) d (snapshot s) w).0 ≡ Ok r → content_of (get (tree_seen s (move_file (operand from p) (operand to q) d (snapshot s) w).1) q) ≡ content_of (get (tree_seen s w) p)
mv_bytes s w none d from to p q r whole differ e = (mv_all s w none d from to p q r whole differ e).bytes

pub mv_stamp : (s : State) (w : Workspace) → NoLinks s w.changes → (d : Done) (from to p q : List ℕ) (r : Unit {0} × Done) → IsTree (tree_seen s w) → p ≢ q → (move_file (operand from p) (operand to q) d (snapshot s) w).0 ≡ Ok r → stamp_of (get (tree_seen s (move_file (operand from p) (operand to q) d (snapshot s) w).1) q) ≡ stamp_of (get (tree_seen s w) p)
mv_stamp s w none d from to p q r whole differ e = (mv_all s w none d from to p q r whole differ e).stamp

pub mv_gone : (s : State) (w : Workspace) → NoLinks s w.changes → (d : Done) (from to p q : List ℕ) (r : Unit {0} × Done) → IsTree (tree_seen s w) → p ≢ q → (move_file (operand from p) (operand to q) d (snapshot s) w).0 ≡ Ok r → get (tree_seen s (move_file (operand from p) (operand to q) d (snapshot s) w).1) p ≡ None
mv_gone s w none d from to p q r whole differ e = (mv_all s w none d from to p q r whole differ e).gone

pub mv_others : (s : State) (w : Workspace) → NoLinks s w.changes → (d : Done) (from to p q : List ℕ) (r : Unit {0} × Done) (k : List ℕ) → IsTree (tree_seen s w) → p ≢ q → (move_file (operand from p) (operand to q) d (snapshot s) w).0 ≡ Ok r → k ≢ p → k ≢ q → AreAlike (get (tree_seen s w) k) (get (tree_seen s (move_file (operand from p) (operand to q) d (snapshot s) w).1) k)
mv_others s w none d from to p q r k whole differ e = (mv_all s w none d from to p q r whole differ e).others k
