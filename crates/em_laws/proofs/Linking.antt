-- What is told of links, and what is made and removed of them, where no directory above the path is
-- a link.
use Rattle.std.proofs.Common.{◌≡◌, ◌≢◌, ℕ, zero, suc, Bool, true, false, List, [], length, Option, Some, None, Ok, refl, sym, ap, subst, ◌∙◌}
use Rattle.std.specs.Prelude.{◌↔◌, IsSome, unwrap_or}
use Rattle.std.specs.FinMap as finite
use Rattle.std.specs.FinMap.{get, insert}
use Rattle.em_path.specs.Paths.{parent_text}
use Rattle.em_tree.specs.declared.node.Kind.TheVariants as kind
use Rattle.em_tree.specs.declared.node.Node.{Node}
use Rattle.em_tree.specs.declared.node.Node.TheVariants.{File, Dir, Link}
use Rattle.em_tree.specs.declared.way.Met.{Met}
use Rattle.em_tree.specs.declared.state.State.{State}
use Rattle.em_tree.specs.Trees.{Table, IsTree, kind_of, link_of}
use Rattle.em_tree.specs.Resolving.{most, levels, first_under, first_link, above_only, on_way, led, links_in}
use Rattle.em_tree.proofs.Resolving.{led_end}
use Rattle.em_view.specs.declared.done.Done.{Done}
use Rattle.em_view.specs.Actions.{Workspace, snapshot}
use Rattle.em_view.specs.Rows.{link_at, make_link, remove}
use Rattle.em_view.specs.Steps as steps
use Rattle.em_utility.specs.declared.operand.OperandNo.{OperandNo}
use Rattle.em_utility.specs.Operands.{at}
use Rattle.em_fileutil.specs.Removing.{remove_past, remove_node, remove_beneath}
use Rattle.em_laws.specs.Nodes.{tree_seen, HasNoLinks, HasNoLinksAbove}
use Rattle.em_laws.specs.Files.{removed}
use Rattle.em_laws.specs.Calls.{next_number, HasFuel, IsPaid, IsAsked, IsCounted, MayMake}
use Rattle.em_laws.proofs.Expanding.{plainly, no_text}
use Rattle.em_laws.proofs.Calling.{led_at}
use Rattle.em_laws.proofs.Going.{Operand, Removal}
use Rattle.em_laws.proofs.Filing.{operand}
use Rattle.em_laws.proofs.Allowing.{Plain, link_true, text_says, text_cost, link_ok, link_tree, link_cost, gone_tree}
use Rattle.em_laws.proofs.Leaving.{Ran, then_ok, at_ok, at_left, same_tree, same_next}

-- ---- where no link is above

module _ (t : Table) where
  abbrev ls : List ℕ → Option (List ℕ)
  ls = links_in t

  dir_text : (o : Option Node) → kind_of o ≡ kind.Dir → link_of o ≡ None
  dir_text None e = refl
  dir_text (Some (File body stamp)) e = refl
  dir_text (Some (Dir stamp)) e = refl
  dir_text (Some (Link text stamp)) e = absurd cc

  dir_some : (o : Option Node) → kind_of o ≡ kind.Dir → IsSome o
  dir_some None e = absurd cc
  dir_some (Some n) e = refl

  there_some : (o : Option Node) → kind_of o ≢ kind.Absent → IsSome o
  there_some None h = absurd (h refl)
  there_some (Some n) h = refl

  -- above a directory of a tree are directories
  module _ (whole : IsTree t) where
    dirs_under : (above : List ℕ → Option Met) (p : List ℕ) → kind_of (get t p) ≡ kind.Dir → ((q : List ℕ) → kind_of (get t q) ≡ kind.Dir → above q ≡ None) → (o : Option (List ℕ)) → parent_text p ≡ o → first_under ls above p o ≡ None
    dirs_under above p dir h None up = refl
    dirs_under above p dir h (Some q) up = rw (h q (whole.parents p q (dir_some (get t p) dir) up), dir_text (get t p) dir) refl

    dirs_clear : (left : ℕ) (p : List ℕ) → kind_of (get t p) ≡ kind.Dir → first_link ls left p ≡ None
    dirs_clear zero p dir = refl
    dirs_clear (suc left) p dir = dirs_under (first_link ls left) p dir (dirs_clear left) (parent_text p) refl

    pub clear_above : (p : List ℕ) → kind_of (get t p) ≢ kind.Absent → on_way ls false p ≡ None
    clear_above p there = by_parent (parent_text p) refl
      where
        by_parent : (o : Option (List ℕ)) → parent_text p ≡ o → above_only (first_link ls levels) o ≡ None
        by_parent None up = refl
        by_parent (Some above) up = dirs_clear levels above (whole.parents p above (there_some (get t p) there) up)

module _ (s : State) (w : Workspace) where
  pub plain_at : (p : List ℕ) → HasNoLinksAbove s w p → Plain s w p
  unfolding led
  plain_at p clear = led_end (links_in (tree_seen s w)) false most 0 p clear

  -- the whole way
  pub way_at : (p : List ℕ) → first_link (links_in (tree_seen s w)) levels p ≡ None → led_at s w true p ≡ plainly s w.changes p
  unfolding led
  way_at p clear = led_end (links_in (tree_seen s w)) true most 0 p clear

  module _ (none : HasNoLinks s w) where
    no_text_at : (p : List ℕ) → link_of (get (tree_seen s w) p) ≡ None
    no_text_at p = no_text s w.changes (get (tree_seen s w) p) (none p)

    clear_under : (above : List ℕ → Option Met) (p : List ℕ) → ((q : List ℕ) → above q ≡ None) → (o : Option (List ℕ)) → first_under (links_in (tree_seen s w)) above p o ≡ None
    clear_under above p h None = refl
    clear_under above p h (Some q) = rw (h q, no_text_at p) refl

    clear_way : (left : ℕ) (p : List ℕ) → first_link (links_in (tree_seen s w)) left p ≡ None
    clear_way zero p = refl
    clear_way (suc left) p = clear_under (first_link (links_in (tree_seen s w)) left) p (clear_way left) (parent_text p)

    clear_by : (o : Option (List ℕ)) → above_only (first_link (links_in (tree_seen s w)) levels) o ≡ None
    clear_by None = refl
    clear_by (Some above) = clear_way levels above

-- ---- the laws

pub links_none : (s : State) (w : Workspace) → HasNoLinks s w → (p : List ℕ) → HasNoLinksAbove s w p × (link_of (get (tree_seen s w) p) ≡ None)
links_none s w none p = (clear_by s w none (parent_text p), no_text_at s w none p)

pub links_there : (s : State) (w : Workspace) (p : List ℕ) → IsTree (tree_seen s w) → kind_of (get (tree_seen s w) p) ≢ kind.Absent → HasNoLinksAbove s w p
links_there s w p whole there = clear_above (tree_seen s w) whole p there

pub links_text : (s : State) (w : Workspace) (p : List ℕ) → HasNoLinksAbove s w p → HasFuel (length (unwrap_or (link_of (get (tree_seen s w) p)) [])) w → (link_at p (snapshot s) w).0 ≡ Ok (link_of (get (tree_seen s w) p))
links_text s w p clear fuel = link_true s w p (plain_at s w p clear) fuel

pub links_text_cost : (s : State) (w : Workspace) (p : List ℕ) → HasNoLinksAbove s w p → (text : Option (List ℕ)) → (link_at p (snapshot s) w).0 ≡ Ok text → HasFuel (length (unwrap_or text [])) w × IsPaid (length (unwrap_or text [])) w (link_at p (snapshot s) w).1 × IsAsked w (link_at p (snapshot s) w).1
links_text_cost s w p clear text e = text_cost s w p (plain_at s w p clear) text e

pub links_ok : (s : State) (w : Workspace) (p text : List ℕ) → HasNoLinksAbove s w p → ((make_link p text (snapshot s) w).0 ≡ Ok tt) ↔ (MayMake (tree_seen s w) p × HasFuel (length text) w)
links_ok s w p text clear = link_ok s w p text (plain_at s w p clear)

pub links_tree : (s : State) (w : Workspace) (p text dir : List ℕ) → HasNoLinksAbove s w p → (make_link p text (snapshot s) w).0 ≡ Ok tt → parent_text p ≡ Some dir
    → tree_seen s (make_link p text (snapshot s) w).1 ≡ insert (insert (tree_seen s w) p (Link text (next_number w))) dir (Dir (next_number w))
links_tree s w p text dir clear = link_tree s w p text dir (plain_at s w p clear)

pub links_cost : (s : State) (w : Workspace) (p text : List ℕ) → HasNoLinksAbove s w p → (make_link p text (snapshot s) w).0 ≡ Ok tt → IsPaid (length text) w (make_link p text (snapshot s) w).1 × IsCounted w (make_link p text (snapshot s) w).1
links_cost s w p text clear = link_cost s w p text (plain_at s w p clear)

-- ---- rm of a link

module _ (s : State) (w : Workspace) (d : Done) (how : Removal) (p text : List ℕ) (stamp : ℕ) (clear : HasNoLinksAbove s w p) (is : get (tree_seen s w) p ≡ Some (Link text stamp)) where
  node_gone : (deeper : Operand → steps.Steps Done OperandNo (Unit {0})) (name dir : List ℕ) (r : Unit {0} × Done) → parent_text p ≡ Some dir → (remove_node deeper how (operand name p) d (snapshot s) w).0 ≡ Ok r
      → tree_seen s (remove_node deeper how (operand name p) d (snapshot s) w).1 ≡ insert (finite.remove (tree_seen s w) p) dir (Dir (next_number w))
  unfolding remove_node
  node_gone deeper name dir r up e =
      let k = remove_past deeper how (operand name p) in
      let one = then_ok s (at name (link_at p)) k d w r e in
      let z = one.0 in
      let v = (link_at p (snapshot s) w).1 in
      let said = text_says s w p (plain_at s w p clear) z.0 (at_ok s name (link_at p) d w z one.1) in
      let goes = one.2 ∙ ap (λ (u : Workspace). k z.0 z.1 (snapshot s) u) (at_left s name (link_at p) d w) ∙ ap (λ (x : Option (List ℕ)). k x z.1 (snapshot s) v) (said.0 ∙ ap link_of is) in
      let ok = at_ok s name (remove p) z.1 v r (sym (ap (λ (o : Ran (Unit {0})). o.0) goes) ∙ e) in
      let same = same_tree s w v said.1 in
      let then_clear = subst (λ (t : Table). on_way (links_in t) false p ≡ None) (sym same) clear in
      ap (λ (o : Ran (Unit {0})). tree_seen s o.1) goes ∙ ap (tree_seen s) (at_left s name (remove p) z.1 v) ∙ gone_tree s v p dir (plain_at s v p then_clear) ok up
      ∙ ap (λ (n : ℕ). insert (finite.remove (tree_seen s v) p) dir (Dir n)) (same_next s w v said.1)
      ∙ ap (λ (u : Table). insert (finite.remove u p) dir (Dir (next_number w))) same

  beneath_gone : (n : ℕ) (name dir : List ℕ) (r : Unit {0} × Done) → parent_text p ≡ Some dir → (remove_beneath how n (operand name p) d (snapshot s) w).0 ≡ Ok r
      → tree_seen s (remove_beneath how n (operand name p) d (snapshot s) w).1 ≡ insert (finite.remove (tree_seen s w) p) dir (Dir (next_number w))
  unfolding steps.refuse
  beneath_gone zero name dir r up e = absurd cc
  beneath_gone (suc n) name dir r up e = node_gone (remove_beneath how n) name dir r up e

pub rm_link : (s : State) (w : Workspace) (d : Done) (force recursive : Bool) (n : ℕ) (name p text : List ℕ) (stamp : ℕ) (dir : List ℕ) (r : Unit {0} × Done) → HasNoLinksAbove s w p → get (tree_seen s w) p ≡ Some (Link text stamp) → parent_text p ≡ Some dir
    → (removed s w d force recursive n name p).0 ≡ Ok r → tree_seen s (removed s w d force recursive n name p).1 ≡ insert (finite.remove (tree_seen s w) p) dir (Dir (next_number w))
rm_link s w d force recursive n name p text stamp dir r clear is up e = beneath_gone s w d (record { force = force; recursive = recursive }) p text stamp clear is n name dir r up e
