-- What steps leave, whatever their end; and that what no link is among has none after it, unless
-- one is made.
--     Goes s T m        from any changes the steps come to ones that T relates to them
--     Plain             without links before, without links after
use Rattle.std.proofs.Common.{◌≡◌, ◌≢◌, inl, inr, ℕ, ◌+◌, zero, suc, cond, List, [], ◌∷◌, Option, Some, None, Result, Ok, Err, refl, sym, ap, subst, ◌∙◌}
use Rattle.std.specs.Prelude.{codes}
use Rattle.std.specs.FinMap.{insert}
use Rattle.em_base.proofs.Lemmas.{by_cases}
use Rattle.em_tree.specs.declared.node.Kind.{Kind}
use Rattle.em_tree.specs.declared.node.Kind.TheVariants as kind
use Rattle.em_tree.specs.declared.node.Node.{Node}
use Rattle.em_tree.specs.declared.node.Node.TheVariants.{File, Dir, Link}
use Rattle.em_tree.specs.declared.state.State.{State}
use Rattle.em_tree.specs.Trees.{Changes, kind_of, content_of}
use Rattle.em_view.specs.declared.no.FileNo.TheVariants as file
use Rattle.em_view.specs.declared.done.Done.{Done}
use Rattle.em_view.specs.declared.done.ExecNo.{ExecNo}
use Rattle.em_view.specs.Actions.{Workspace, snapshot, go_on, ◌>>=◌}
use Rattle.em_view.specs.Rows.{change_number, becomes, kind_at, link_at, names, remove}
use Rattle.em_view.specs.Steps.{Steps, with_state, and_then, below, own, within}
use Rattle.em_view.specs.Steps as steps
use Rattle.em_utility.specs.declared.reason.Reason.TheVariants as reason
use Rattle.em_utility.specs.declared.operand.OperandNo.{OperandNo}
use Rattle.em_utility.specs.Operands.{at, caught, each, Tries}
use Rattle.em_fileutil.specs.Spots.{fault, told, child, gives, there, ending}
use Rattle.em_fileutil.specs.Copying.{copy_file}
use Rattle.em_fileutil.specs.Removing.{remove_child, remove_tree, absent, remove_by, remove_other, remove_past, remove_node, remove_beneath}
use Rattle.em_laws.proofs.Expanding.{kind_there, NoLinks}
use Rattle.em_laws.proofs.Changing.{here, elsewhere, same_key_or, Fresh}
use Rattle.em_laws.proofs.Calling.{Out, Ends, Still, kind_any, link_any, names_any, remove_ends}

-- the types of operands, and of how things are removed
abbrev pub DomainOf : {X Y : Type 0} → (X → Y) → Type 0
DomainOf {X} f = X

abbrev pub Operand : Type 0
Operand = DomainOf copy_file

abbrev pub Removal : Type 0
Removal = DomainOf remove_beneath

-- ---- steps, whatever their end

module _ (s : State) where
  abbrev pub Goes : {E A : Type 0} → (Changes → Changes → Type 0) → Steps Done E A → Type 0
  Goes T m = (x : Done) (w : Workspace) → T w.changes (m x (snapshot s) w).1.changes

  seq_on : {E A B : Type 0} (Q R T : Changes → Changes → Type 0) (d : Changes) (r : Result (A × Done) (E × Done)) (v : Workspace) (k : A → Steps Done E B) → (Q d v.changes → T d v.changes) → ((x : Changes) → Q d v.changes → R v.changes x → T d x)
      → Q d v.changes → ((z : A × Done) → r ≡ Ok z → Goes R (k z.0)) → T d (go_on r v (λ z. k z.0 z.1) (snapshot s)).1.changes
  seq_on Q R T d (Ok z) v k cut more q h = more (k z.0 z.1 (snapshot s) v).1.changes q (h z refl z.1 v)
  seq_on Q R T d (Err e) v k cut more q h = cut q

  pub goes_seq : {E A B : Type 0} (Q R T : Changes → Changes → Type 0) (m : Steps Done E A) (k : A → Steps Done E B) → ((d y : Changes) → Q d y → T d y) → ((d y x : Changes) → Q d y → R y x → T d x) → Goes Q m → ((a : A) → Goes R (k a)) → Goes T (and_then m k)
  unfolding and_then ◌>>=◌
  goes_seq Q R T m k cut more h g x w =
      let v = (m x (snapshot s) w).1 in
      seq_on Q R T w.changes (m x (snapshot s) w).0 v k (cut w.changes v.changes) (λ y. more w.changes v.changes y) (h x w) (λ z _. g z.0)

  pub same_action : {A : Type 0} (w : Workspace) {P : Type 0} {G : A → Workspace → Type 0} (r : Out A) → Ends w P G r → ((a : A) → G a r.1 → Still w r.1) → r.1.changes ≡ w.changes
  same_action w r e h = elim e.it as (λ _. r.1.changes ≡ w.changes) [
    | inl good ↦ ap (λ (v : Workspace). v.changes) (h good.1.0 good.1.2)
    | inr bad ↦ ap (λ (v : Workspace). v.changes) bad.2
  ]

  pub kind_same : (p : List ℕ) (w : Workspace) → (kind_at p (snapshot s) w).1.changes ≡ w.changes
  kind_same p w = same_action w (kind_at p (snapshot s) w) (kind_any s w p) (λ a g. g.2)

  pub names_same : (p : List ℕ) (w : Workspace) → (names p (snapshot s) w).1.changes ≡ w.changes
  names_same p w = same_action w (names p (snapshot s) w) (names_any s w p) (λ a g. g.2)

  pub link_same : (p : List ℕ) (w : Workspace) → (link_at p (snapshot s) w).1.changes ≡ w.changes
  link_same p w = same_action w (link_at p (snapshot s) w) (link_any s w p) (λ a g. g.2)

  module _ (T : Changes → Changes → Type 0) (self : (d : Changes) → T d d) where
    pub still : (d x : Changes) → x ≡ d → T d x
    still d x e = subst (T d) (sym e) (self d)

    pub goes_kind : (name p : List ℕ) → Goes T (at name (kind_at p))
    unfolding at below
    goes_kind name p x w = still w.changes (kind_at p (snapshot s) w).1.changes (kind_same p w)

    pub goes_link : (name p : List ℕ) → Goes T (at name (link_at p))
    unfolding at below
    goes_link name p x w = still w.changes (link_at p (snapshot s) w).1.changes (link_same p w)

    pub goes_names : (o : Operand) (p : List ℕ) → Goes T (there o (names p))
    unfolding there
    goes_names o p x w = still w.changes (names p (snapshot s) w).1.changes (names_same p w)

    pub goes_gives : {A : Type 0} (r : Result A OperandNo) → Goes T (gives r)
    unfolding own
    goes_gives r x w = self w.changes

    pub goes_refuse : (e : OperandNo) → Goes T (steps.refuse {A = Unit {0}} e)
    unfolding steps.refuse
    goes_refuse e x w = self w.changes

    pub goes_done : Goes T (steps.done {E = OperandNo} (tt {0}))
    unfolding steps.done
    goes_done x w = self w.changes

    pub goes_ran : Goes T (steps.done {E = ExecNo} (tt {0}))
    unfolding steps.done
    goes_ran x w = self w.changes

  pub goes_caught : (T : Changes → Changes → Type 0) (utility : List ℕ) (m : Tries) → Goes T m → Goes T (caught utility m)
  unfolding caught
  goes_caught T utility m h x w = h x w

  pub goes_ending : (T : Changes → Changes → Type 0) (m : Steps Done ExecNo (Unit {0})) → Goes T m → Goes T (ending m)
  unfolding within
  goes_ending T m h x w = h x w

-- ---- no link comes

module _ (s : State) where
  abbrev pub Plain : Changes → Changes → Type 0
  Plain d x = NoLinks s d → NoLinks s x

  one_plain : (d : Changes) (p : List ℕ) (c : Option Node) → kind_of c ≢ kind.Link → NoLinks s d → NoLinks s (insert d p c)
  one_plain d p c other h q = same_key_or q p (kind_there s (insert d p c) q ≢ kind.Link)
      (λ is e. other (sym (ap (kind_there s (insert d p c)) is ∙ ap kind_of (here d s.tree p c)) ∙ e))
      (λ isnt e. h q (sym (ap kind_of (elsewhere d s.tree p c q isnt)) ∙ e))

  pub becomes_plain : (d : Changes) (p : List ℕ) (c : Option Node) (above : Option (List ℕ)) (n : ℕ) → kind_of c ≢ kind.Link → NoLinks s d → NoLinks s (becomes p c above n d)
  becomes_plain d p c None n other h = one_plain d p c other h
  becomes_plain d p c (Some r) n other h = one_plain (insert d p c) r (Some (Dir n)) (λ e. cc) (one_plain d p c other h)

  pub no_link : (node : Node) (bytes : List ℕ) → content_of (Some node) ≡ Some bytes → kind_of (Some node) ≢ kind.Link
  no_link (File body stamp) bytes e = λ f. cc
  no_link (Dir stamp) bytes e = absurd cc
  no_link (Link text stamp) bytes e = absurd cc

  pub fresh_plain : (d : Changes) (p : List ℕ) (P : Node → Type 0) (x : Changes) → ((node : Node) → P node → kind_of (Some node) ≢ kind.Link) → NoLinks s d → Fresh s d p P x → NoLinks s x
  fresh_plain d p P x other h (node, so, (above, n, is, under), free) = subst (NoLinks s) (sym is) (becomes_plain d p (Some node) above n (other node so) h)

  pub plain_same : (d x : Changes) → x ≡ d → Plain d x
  plain_same d x e = subst (NoLinks s) (sym e)

  remove_plain : (p : List ℕ) (w : Workspace) → Plain w.changes (remove p (snapshot s) w).1.changes
  remove_plain p w h = elim (remove_ends s w h p).it as (λ _. NoLinks s (remove p (snapshot s) w).1.changes) [
    | inl good ↦ subst (NoLinks s) (sym good.1.2.2.changes) (becomes_plain w.changes p None (Some good.1.2.0) (change_number w.base w.job (w.count + 1)) (λ e. cc) h)
    | inr bad ↦ plain_same w.changes (remove p (snapshot s) w).1.changes (ap (λ (v : Workspace). v.changes) bad.2) h
  ]

  plain_remove : (name p : List ℕ) → Goes s Plain (at name (remove p))
  unfolding at below
  plain_remove name p x w = remove_plain p w

  pub plain_self : (d : Changes) → Plain d d
  plain_self d h = h

  plain_then : {E A B : Type 0} (m : Steps Done E A) (k : A → Steps Done E B) → Goes s Plain m → ((a : A) → Goes s Plain (k a)) → Goes s Plain (and_then m k)
  plain_then m k h g = goes_seq s Plain Plain Plain m k (λ d y f. f) (λ d y x f e none. e (f none)) h g

  -- ---- rm

  module _ (deeper : Operand → Tries) (h : (o : Operand) → Goes s Plain (deeper o)) (o : Operand) where
    plain_child : (c : List ℕ) → Goes s Plain (remove_child deeper o c)
    plain_child c = plain_then (gives (child o c)) (λ inside. deeper inside) (goes_gives s Plain plain_self (child o c)) (λ i. h i)

    pub plain_each : (cs : List (List ℕ)) → Goes s Plain (each (codes "rm") (remove_child deeper o) cs)
    plain_each [] = goes_ran s Plain plain_self
    plain_each (c ∷ cs) = plain_then (caught (codes "rm") (remove_child deeper o c)) (λ u. each (codes "rm") (remove_child deeper o) cs) (goes_caught s Plain (codes "rm") (remove_child deeper o c) (plain_child c)) (λ u. plain_each cs)

    plain_tree : Goes s Plain (remove_tree deeper o)
    unfolding remove_tree
    plain_tree = plain_then (there o (names o.path)) (λ inside. and_then (ending (each (codes "rm") (remove_child deeper o) inside)) (λ u. at o.name (remove o.path))) (goes_names s Plain plain_self o o.path) (λ ns.
        plain_then (ending (each (codes "rm") (remove_child deeper o) ns)) (λ u. at o.name (remove o.path)) (goes_ending s Plain (each (codes "rm") (remove_child deeper o) ns) (plain_each ns)) (λ u. plain_remove o.name o.path))

    plain_by : (how : Removal) (k : Kind) → Goes s Plain (remove_by deeper how o k)
    plain_by how kind.Absent = goes_gives s Plain plain_self (absent how.force o)
    plain_by how kind.File = plain_remove o.name o.path
    plain_by how kind.Link = plain_remove o.name o.path
    plain_by how kind.Dir = by_cases how.recursive (λ t. Goes s Plain (cond t (remove_tree deeper o) (steps.refuse (told o file.IsDir)))) (λ _. plain_tree) (λ _. goes_refuse s Plain plain_self (told o file.IsDir))

    plain_other : (how : Removal) → Goes s Plain (remove_other deeper how o)
    unfolding remove_other
    plain_other how = plain_then (at o.name (kind_at o.path)) (λ k. remove_by deeper how o k) (goes_kind s Plain plain_self o.name o.path) (λ k. plain_by how k)

    plain_past : (how : Removal) (l : Option (List ℕ)) → Goes s Plain (remove_past deeper how o l)
    plain_past how (Some text) = plain_remove o.name o.path
    plain_past how None = plain_other how

    plain_node : (how : Removal) → Goes s Plain (remove_node deeper how o)
    unfolding remove_node
    plain_node how = plain_then (at o.name (link_at o.path)) (λ l. remove_past deeper how o l) (goes_link s Plain plain_self o.name o.path) (λ l. plain_past how l)

  pub plain_rm : (how : Removal) (n : ℕ) (o : Operand) → Goes s Plain (remove_beneath how n o)
  plain_rm how zero o = goes_refuse s Plain plain_self (fault o reason.BadPath)
  plain_rm how (suc n) o = plain_node (remove_beneath how n) (plain_rm how n) o how
