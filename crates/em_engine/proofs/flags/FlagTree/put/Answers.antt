use Rattle.std.proofs.Common.{◌≡◌, ◌∙◌, ◌+◌, ◌*◌, ◌/◌, ◌||◌, ℕ, Bool, List, length-drop, sym, ap, refl, arith}
use Rattle.std.proofs.lemmas.List.{drop-set-lt, drop-set-add}
use Rattle.std.proofs.Math.ListN.{length-set}
use Rattle.em_engine.specs.Flags.{node}
use Rattle.em_engine.proofs.Nodes.{told, put_leaf, mend}
use Rattle.em_engine.proofs.flags.FlagTree.put.Goals as goal

pub loop-node-init : goal.loop-node-init
loop-node-init c =
    let t = c.self.invariant in
    let lt = rw (← c.self.view_is) at c.requires in
    record {
      within = omega (arith, t.whole, simp length-drop at lt);
      wide = t.wide;
      few = t.few;
      whole = length-set c.self.inside.any.items _ _ ∙ t.whole;
      same_width = refl;
      flags = refl;
      tells = put_leaf c.self.inside.width c.self.inside.any.items (c.self.inside.width + c.args.at) c.args.raised (omega arith) t.tells;
    }

pub loop-node-preserved : goal.loop-node-preserved
loop-node-preserved c =
    let v = c.loop-node.invariant in
    let any : List Bool = c.loop-node.self-inside.any.items in
    let half : ℕ = c.loop-node.node / 2 in
    let low : node any (2 * half) ≡ c.index-low.result.now = told any (2 * half) _ (omega (arith, v.within, v.whole)) c.index-low.ensures in
    let high : node any (2 * half + 1) ≡ c.index-high.result.now = told any (2 * half + 1) _ (omega (arith, v.within, v.whole)) c.index-high.ensures in
    let either : (c.index-low.result.now || c.index-high.result.now) ≡ (node any (2 * half) || node any (2 * half + 1)) =
    ap (λ (b : Bool). b || c.index-high.result.now) (sym low) ∙ ap (λ (b : Bool). node any (2 * half) || b) (sym high) in
    record {
      within = omega (arith, v.within);
      wide = v.wide;
      few = v.few;
      whole = length-set any _ _ ∙ v.whole;
      same_width = v.same_width;
      flags = drop-set-lt _ any half _ (omega (arith, v.within)) ∙ v.flags;
      tells = mend c.loop-node.self-inside.width any c.loop-node.node _ c.loop-node-test.true v.within v.whole v.tells either;
    }

pub returns : goal.returns
returns c = rw (← c.self.view_is) (c.loop-node.invariant.flags ∙ drop-set-add c.self.inside.width c.self.inside.any.items c.args.at c.args.raised)
