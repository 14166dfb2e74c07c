use Rattle.std.proofs.Common.{◌≡◌, ◌-◌, ℕ, Bool, List, Result, Ok, sym, subst, ◌∙◌}
use Rattle.std.proofs.lemmas.Result.{err_from_is_err_and}
use Rattle.em_tree.specs.Trees.{Table}
use Rattle.em_image.specs.Image.{limits}
use Rattle.em_image.specs.Parts.{Gives, Here, IsAt, seen, mark_at}
use Rattle.em_image.specs.declared.no.ImageNo.{ImageNo}
use Rattle.em_image.specs.declared.cursor.Mark.{Mark}
use Rattle.em_image.specs.declared.cursor.Cursor.{Cursor}
use Rattle.em_image.proofs.Chain.{Entry}
use Rattle.em_image.proofs.Forward.{after, at_ok, mark_reads, node_reads}
use Rattle.em_image.proofs.Loop.{start, mark_fails, ends_at, too_many, no_more, turn, node_fails, node_joins, goes_on, node_absent}
use Rattle.em_image.proofs.Whole.{root_tree, is_a_dir, home_of}
use Rattle.em_image.proofs.reading.nodes.Goals as goal

pub loop-init : goal.loop-init
loop-init c = record {
  loop = rw (c.root-last.ensures.text, c.in_ok-tree.ensures) (start c.args.links _ c.args.root_stamp (seen c.args.cursor));
  at = c.requires;
  home = rw (c.root-home.ensures.text, c.in_ok-tree.ensures) (is_a_dir _ (root_tree c.args.root_stamp).root);
}

marked : (input : List ℕ) (links : Bool) (h : Here) (m : Mark × Here) → IsAt input h → mark_at links h ≡ Ok m → IsAt input m.1
marked input links h m a e = at_ok after input h (mark_at links h) m a (mark_reads links h) e

given : (r : Result (Table × Cursor) ImageNo) (whole s : Result (Table × Here) ImageNo) → whole ≡ s → Gives (λ x. (x.0, seen x.1)) r s → Gives (λ x. (x.0, seen x.1)) r whole
given r whole s e g = subst (λ (t : Result (Table × Here) ImageNo). Gives (λ (x : Table × Cursor). (x.0, seen x.1)) r t) (sym e) g

pub node-requires : goal.node-requires
node-requires c = record { at = marked c.args.input.now c.args.links (seen c.loop.here) (c.in_ok-mark.mark, seen c.in_ok-mark.after) c.loop.invariant.at c.in_ok-mark.ensures; home = c.loop.invariant.home }

pub returns-in_err-mark : goal.returns-in_err-mark
returns-in_err-mark c =
    let p = err_from_is_err_and c.from_residual-in_err-mark.result c.from_residual-in_err-mark.ensures.1 in
    rw (p.1, p.2) (mark_fails c.in_err-mark.field-0.0 c.args.links c.loop.due (limits.nodes - c.loop.counter) c.loop.last c.loop.tree (seen c.loop.here) _ c.in_err-mark.ensures c.loop.invariant.loop)

pub returns-then-is_end : goal.returns-then-is_end
returns-then-is_end c =
    let m = c.in_ok-mark.mark in
    given _ _ _ (ends_at m c.args.links c.loop.due (limits.nodes - c.loop.counter) c.loop.last c.loop.tree (seen c.loop.here) _ (seen c.in_ok-mark.after) c.in_ok-mark.ensures (sym c.is_end.ensures ∙ c.if-is_end.true) c.loop.invariant.loop) c.closed.ensures

pub returns-in_err-path : goal.returns-in_err-path
returns-in_err-path c =
    let p = err_from_is_err_and c.from_residual-in_err-path.result c.from_residual-in_err-path.ensures.1 in
    rw (p.1, p.2) (node_fails c.in_err-path.field-0.0 c.args.links c.loop.due _ c.in_ok-mark.mark c.loop.last c.loop.tree (seen c.loop.here) (seen c.in_ok-mark.after) _ c.in_ok-mark.ensures (sym c.is_end.ensures ∙ c.if-is_end.false) c.in_err-path.ensures.node (turn limits.nodes c.loop.counter c.args.links c.loop.due c.loop.last c.loop.tree (seen c.loop.here) _ c.loop-test.true c.loop.invariant.loop))

pub add-requires : goal.add-requires
add-requires c =
    let m = c.in_ok-mark.mark in
    let x : Entry × Here = ((c.in_ok-path.path, c.in_ok-path.node), seen c.in_ok-path.after) in
    record {
      absent = node_absent m c.loop.last c.loop.tree (seen c.in_ok-mark.after) x c.loop.invariant.loop.is_last c.in_ok-path.ensures.node;
      tree = (node_joins m c.loop.last c.loop.tree (seen c.in_ok-mark.after) x c.loop.invariant.loop.tree c.loop.invariant.loop.is_last c.in_ok-path.ensures.node).0;
    }

pub loop-preserved : goal.loop-preserved
loop-preserved c =
    let m = c.in_ok-mark.mark in
    let x : Entry × Here = ((c.in_ok-path.path, c.in_ok-path.node), seen c.in_ok-path.after) in
    let at = marked c.args.input.now c.args.links (seen c.loop.here) (m, seen c.in_ok-mark.after) c.loop.invariant.at c.in_ok-mark.ensures in
    record {
      loop = rw (c.in_ok-add.ensures.ok, c.in_ok-last.ensures, c.still_due-due.ensures c.in_ok-path.path)
          (goes_on c.args.links c.loop.due _ m c.loop.last c.loop.tree (seen c.loop.here) (seen c.in_ok-mark.after) _ x c.in_ok-mark.ensures (sym c.is_end.ensures ∙ c.if-is_end.false) c.in_ok-path.ensures.node (turn limits.nodes c.loop.counter c.args.links c.loop.due c.loop.last c.loop.tree (seen c.loop.here) _ c.loop-test.true c.loop.invariant.loop));
      at = at_ok after c.args.input.now (seen c.in_ok-mark.after) _ x at (node_reads limits m c.loop.last c.loop.tree (seen c.in_ok-mark.after)) c.in_ok-path.ensures.node;
      home = rw c.in_ok-add.ensures.ok (home_of c.loop.tree c.in_ok-path.path c.in_ok-path.parent c.in_ok-path.node
          (node_joins m c.loop.last c.loop.tree (seen c.in_ok-mark.after) x c.loop.invariant.loop.tree c.loop.invariant.loop.is_last c.in_ok-path.ensures.node).0
          c.in_ok-path.ensures.parent);
    }

pub returns-in_err-mark-2 : goal.returns-in_err-mark-2
returns-in_err-mark-2 c =
    let p = err_from_is_err_and c.from_residual-in_err-mark-2.result c.from_residual-in_err-mark-2.ensures.1 in
    rw (p.1, p.2) (mark_fails c.in_err-mark-2.field-0.0 c.args.links c.loop.due (limits.nodes - c.loop.counter) c.loop.last c.loop.tree (seen c.loop.here) _ c.in_err-mark-2.ensures c.loop.invariant.loop)

pub returns-then-is_end-2 : goal.returns-then-is_end-2
returns-then-is_end-2 c =
    let m = c.in_ok-mark-2.mark in
    given _ _ _ (ends_at m c.args.links c.loop.due (limits.nodes - c.loop.counter) c.loop.last c.loop.tree (seen c.loop.here) _ (seen c.in_ok-mark-2.after) c.in_ok-mark-2.ensures (sym c.is_end-2.ensures ∙ c.if-is_end-2.true) c.loop.invariant.loop) c.closed-then-is_end-2.ensures

pub returns : goal.returns
returns c =
    too_many c.in_ok-mark-2.mark c.args.links c.loop.due c.loop.last c.loop.tree (seen c.loop.here) _ (seen c.in_ok-mark-2.after) c.in_ok-mark-2.ensures (sym c.is_end-2.ensures ∙ c.if-is_end-2.false)
    (no_more limits.nodes c.loop.counter c.args.links c.loop.due c.loop.last c.loop.tree (seen c.loop.here) _ c.loop-test.false c.loop.invariant.loop)
