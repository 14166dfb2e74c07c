use Rattle.std.proofs.Common.{sym, ap, ◌∙◌, Some}
use Rattle.std.specs.FinMap.{get}
use Rattle.em_tree.specs.Trees.{Table, link_of}
use Rattle.em_tree.proofs.Resolving.{no_way_in, way_here}
use Rattle.em_tree.proofs.tree.Tree.resolve.Goals as goal

pub returns-then-not-self : goal.returns-then-not-self
returns-then-not-self c = ap (λ x. Some x) c.in_ok-copy.ensures
    ∙ sym (no_way_in c.args.self.now (λ q. ap (λ (t : Table). link_of (get t q)) (sym c.self.view_is) ∙ c.self.invariant.1.1.none (c.if-not-self.true) q) c.args.p.now)

pub returns : goal.returns
returns c = way_here c.args.self.now c.resolve_from.result c.args.p.now c.in_ok-copy-2.field-0 c.in_ok-copy-2.ensures c.resolve_from.ensures
