-- That removing and touching leave a tree.
use Rattle.std.proofs.Common.{◌≡◌, ℕ, ◌++◌, List, [], ◌∷◌, Option, Some, None, Result, Ok, refl, sym, ap, subst, ◌∙◌}
use Rattle.std.specs.Prelude.{IsSome, unwrap_or, filter_map}
use Rattle.std.specs.Option.{option_map}
use Rattle.std.specs.FinMap.{get}
use Rattle.em_path.specs.Paths.{parent_text, last_of}
use Rattle.em_tree.specs.declared.node.Kind.{Kind}
use Rattle.em_tree.specs.declared.node.Kind.TheVariants as kind
use Rattle.em_tree.specs.declared.node.Node.{Node}
use Rattle.em_tree.specs.declared.node.Node.TheVariants.{File, Dir, Link}
use Rattle.em_tree.specs.declared.question.Entry.{Entry}
use Rattle.em_tree.specs.declared.state.State.{State}
use Rattle.em_tree.specs.Names.{names_of, in_dir, children_of}
use Rattle.em_tree.specs.Trees.{Changes, kind_of, laid_over}
use Rattle.em_tree.proofs.Laying.{over}
use Rattle.em_tree.proofs.Lawful.{get-laid_over}
use Rattle.em_view.specs.declared.no.DeskNo.{DeskNo}
use Rattle.em_view.specs.Actions.{Workspace, snapshot, ◌>>=◌, done, mine, ask}
use Rattle.em_view.specs.Performs.{DeskState, Told, Performs}
use Rattle.em_view.specs.Held.{Fits, NamesPaths, IsSeen, MayGo}
use Rattle.em_view.specs.Names.{with_own}
use Rattle.em_view.specs.Rows.{is_memory, kind_below, told_names, made_names, other_names, amend, names_by, names_below, names_refusal, becomes}
use Rattle.em_view.proofs.Asking.{agreed}
use Rattle.em_view.proofs.Looking.{on_snapshot, seen_kind}
use Rattle.em_view.proofs.Fitting.{tree_touch, tree_remove, no_child, bare_but_dir}

is_there : (n : Option Node) (k : Kind) → kind_of n ≡ k → (kind.Absent ≡ k → ⊥) → IsSome n
is_there None k e there = absurd (there e)
is_there (Some x) k e there = refl

-- ---- the names of a directory on a state

made_is : (s : State) (w : Workspace) (p : List ℕ) → (made_names p (snapshot s) w).0 ≡ Ok (Some (with_own w.changes p (unwrap_or (names_of s.tree p) [])))
unfolding made_names told_names amend done ask ◌>>=◌
made_is s w p = refl

other_is : (s : State) (w : Workspace) (p : List ℕ) → kind_of (get s.tree p) ≡ kind.Dir → (other_names p (snapshot s) w).0 ≡ Ok (Some (with_own w.changes p (unwrap_or (names_of s.tree p) [])))
unfolding other_names told_names amend done ask ◌>>=◌
other_is s w p e = ap (λ (k : Kind). let r : Result (Option (List (List ℕ))) DeskNo = Ok (option_map (with_own w.changes p) (in_dir k (filter_map last_of (children_of s.tree p)))) in r) e
    ∙ sym (ap (λ (k : Kind). let r : Result (Option (List (List ℕ))) DeskNo = Ok (Some (with_own w.changes p (unwrap_or (in_dir k (filter_map last_of (children_of s.tree p))) []))) in r) e)

names_are : (s : State) (w : Workspace) (p : List ℕ) (m : Option (Option Node)) → kind_of (over m (get s.tree p)) ≡ kind.Dir → (names_by m p (snapshot s) w).0 ≡ Ok (Some (with_own w.changes p (unwrap_or (names_of s.tree p) [])))
names_are s w p None e = other_is s w p e
names_are s w p (Some None) e = absurd (cc)
names_are s w p (Some (Some (File body stamp))) e = absurd (cc)
names_are s w p (Some (Some (Dir stamp))) e = made_is s w p
names_are s w p (Some (Some (Link text stamp))) e = absurd (cc)

seen_names : (s : State) (w : Workspace) (p : List ℕ) → kind_of (get (laid_over w.changes s.tree) p) ≡ kind.Dir → (names_below p (snapshot s) w).0 ≡ Ok (Some (with_own w.changes p (unwrap_or (names_of s.tree p) [])))
unfolding names_below mine ◌>>=◌
seen_names s w p e = names_are s w p (get w.changes p) (ap kind_of (sym (get-laid_over w.changes s.tree p)) ∙ e)

empty_list : (xs : List (List ℕ)) → names_refusal (Some xs) ≡ None → xs ≡ []
empty_list [] e = refl
empty_list (x ∷ xs) e = absurd (cc)

module _ {V : Type 0} where
  -- what was seen stays seen while more is asked
  pub still_seen : (d e : DeskState V) (es : List Entry) (p : List ℕ) (k : Kind) → e.usage ≡ d.usage ++ es → e.work.changes ≡ d.work.changes → IsSeen d p k → IsSeen e p k
  still_seen d e es p k grew same h s tree all = subst (λ (c : Changes). kind_of (get (laid_over c s.tree) p) ≡ k) (sym same) (h s tree (agreed d.usage es e.usage grew s all).0)

  -- the kind that was told is seen
  pub kind_seen : {tells : V → Told} (d e : DeskState V) (k : Kind) (p : List ℕ) → e.work.changes ≡ d.work.changes → Performs is_memory tells d e (Ok k) (kind_below p) → IsSeen e p k
  kind_seen d e k p still h s tree all =
      let same : ◌≡◌ {A = Result Kind DeskNo} (Ok k) (Ok (kind_of (get (laid_over d.work.changes s.tree) p))) = sym (on_snapshot s all h).0 ∙ (seen_kind s d.work p).0 in
      let is : k ≡ kind_of (get (laid_over d.work.changes s.tree) p) = cc in
      subst (λ (c : Changes). kind_of (get (laid_over c s.tree) p) ≡ k) (sym still) (sym is)

  pub touch_fits : (d : DeskState V) (p : List ℕ) (node : Node) (n : ℕ) → Fits d.usage d.work.changes → IsSeen d p (kind_of (Some node)) → Fits d.usage (becomes p (Some node) None n d.work.changes)
  touch_fits d p node n fits h s tree all = tree_touch s.tree d.work.changes p node n (fits s tree all) (h s tree all)

  pub remove_fits : (d : DeskState V) (p q : List ℕ) (n : ℕ) → Fits d.usage d.work.changes → parent_text p ≡ Some q → MayGo d p → Fits d.usage (becomes p None (Some q) n d.work.changes)
  remove_fits d p q n fits up h s tree all = let go = h s tree all in tree_remove s.tree d.work.changes p q n (fits s tree all) up go.0 go.1

  -- a file goes, and a link
  pub other_goes : (d : DeskState V) (p : List ℕ) (k : Kind) → (kind.Absent ≡ k → ⊥) → (kind.Dir ≡ k → ⊥) → Fits d.usage d.work.changes → IsSeen d p k → MayGo d p
  other_goes d p k there other fits h s tree all =
      let t = laid_over d.work.changes s.tree in
      (is_there (get t p) k (h s tree all) there, bare_but_dir t p (fits s tree all) (λ e. other (sym e ∙ h s tree all)))

  pub dir_goes : {tells : V → Told} (d e : DeskState V) (p : List ℕ) (ns : Option (List (List ℕ))) → Fits d.usage d.work.changes → NamesPaths d.work.changes → IsSeen d p kind.Dir → e.work.changes ≡ d.work.changes
      → Performs is_memory tells d e (Ok ns) (names_below p) → names_refusal ns ≡ None → MayGo e p
  dir_goes d e p ns fits paths h still named empty s tree all =
      let on = on_snapshot s all named in
      let t = laid_over d.work.changes s.tree in
      let dir = h s tree on.1 in
      let left = with_own d.work.changes p (unwrap_or (names_of s.tree p) []) in
      let same : ◌≡◌ {A = Result (Option (List (List ℕ))) DeskNo} (Ok ns) (Ok (Some left)) = sym on.0 ∙ seen_names s d.work p dir in
      let is : ns ≡ Some left = cc in
      let none = empty_list left (subst (λ (x : Option (List (List ℕ))). names_refusal x ≡ None) is empty) in
      subst (λ (c : Changes). IsSome (get (laid_over c s.tree) p) × ((q : List ℕ) → parent_text q ≡ Some p → get (laid_over c s.tree) q ≡ None)) (sym still)
      (is_there (get t p) kind.Dir dir (λ e. cc), no_child s.tree d.work.changes p tree (fits s tree on.1) paths none)
