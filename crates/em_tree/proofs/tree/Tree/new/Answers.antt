use Rattle.std.proofs.Common.{false, ◌≡◌, ◌∙◌, sym, ap, subst, List, ℕ}
use Rattle.std.specs.FinMap.{empty, insert, get, get-empty}
use Rattle.em_path.specs.Paths.{root_text}
use Rattle.em_tree.specs.declared.node.Node.{Node}
use Rattle.em_tree.specs.declared.node.Node.TheVariants.{Dir}
use Rattle.em_tree.specs.Trees.{Table, IsTree}
use Rattle.em_tree.specs.Index.{IsIndex}
use Rattle.em_tree.specs.Flags.{IsFlag}
use Rattle.em_tree.proofs.Maps.{order}
use Rattle.em_tree.proofs.Tables.{IsTree-root}
use Rattle.em_tree.proofs.Indexes.{IsIndex-empty}
use Rattle.em_tree.proofs.Flagging.{IsFlag-root}
use Rattle.em_tree.proofs.tree.Tree.new.Goals as goal

pub put_new-requires-clause-index : goal.put_new-requires-clause-index
put_new-requires-clause-index c = subst (λ (t : Table). IsIndex c.new-children.result t) (sym c.new-nodes.ensures) (IsIndex-empty Node c.new-children.result c.new-children.ensures.empty)

pub put_new-requires-clause-absent : goal.put_new-requires-clause-absent
put_new-requires-clause-absent c = ap (λ (t : Table). get t c.in_ok-root.root.path) c.new-nodes.ensures ∙ get-empty order c.in_ok-root.root.path

pub invariant_of-result : goal.invariant_of-result
invariant_of-result c =
    let path = c.in_ok-root.ensures ∙ c.root.ensures.text in
    let e : c.put_new.new.nodes ≡ insert empty root_text (Dir c.args.root_stamp) = c.in_ok-put_new.ensures.ok ∙ ap (λ (t : Table). insert t c.in_ok-root.root.path (Dir c.args.root_stamp)) c.new-nodes.ensures ∙ ap (λ (p : List ℕ). insert empty p (Dir c.args.root_stamp)) path in
    (subst IsTree (sym e) (IsTree-root c.args.root_stamp), (c.in_ok-put_new.ensures.index, subst (λ (t : Table). IsFlag false t) (sym e) (IsFlag-root c.args.root_stamp)))
