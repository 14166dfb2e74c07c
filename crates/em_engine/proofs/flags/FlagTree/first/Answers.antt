use Rattle.std.proofs.Common.{◌≡◌, ◌∙◌, sym, subst, ℕ, ◌+◌, ◌*◌, ◌<◌, ◌^◌, Bool, false, List, arith}
use Rattle.std.proofs.lemmas.Nat.{pow_pos}
use Rattle.em_engine.specs.Flags.{node}
use Rattle.em_engine.proofs.Nodes.{told, no_flag, first_flag, inner, Down, down_low, down_high}
use Rattle.em_engine.proofs.flags.FlagTree.first.Goals as goal
use Rattle.em_engine.proofs.flags.FlagTree.first.Goals.{then-not-index-2, else-not-index-2}

pub returns-then-not-index : goal.returns-then-not-index
returns-then-not-index c =
    let none : node c.self.inside.any.items 1 ≡ false = told c.self.inside.any.items 1 _ (let z : 0 < 2 ^ c.self.inside.levels = pow_pos c.self.inside.levels in omega (arith, c.self.invariant.whole, c.self.invariant.wide)) c.index.ensures ∙ c.if-not-index.true in
    rw (← c.self.view_is) (no_flag _ _ _ c.self.invariant none)

pub index-requires-in-loop : goal.index-requires-in-loop
index-requires-in-loop c =
    let i = inner _ _ _ c.self.invariant c.loop.counter c.loop.node c.loop-test.true c.loop.invariant.to in
    omega (arith, i, c.self.invariant.whole)

pub loop-preserved : goal.loop-preserved
loop-preserved c =
    let t = c.self.invariant in
    let v = c.loop.invariant in
    let any : List Bool = c.self.inside.any.items in
    let i = inner _ _ _ t c.loop.counter c.loop.node c.loop-test.true v.to in
    let read : node any (2 * c.loop.node) ≡ c.index-in-loop.result.now = told any (2 * c.loop.node) _ (omega (arith, i, t.whole)) c.index-in-loop.ensures in
    let goes : Down (c.loop.counter + 1) c.if-not-index-2.node any =
    elim c.if-not-index-2.branch [
      | then-not-index-2 w ↦ subst (λ (n : ℕ). Down (c.loop.counter + 1) n any) (sym w.node-is) (down_high _ _ any t c.loop.counter c.loop.node c.loop-test.true v.from v.to v.here v.before (read ∙ w.if-not-index-2.true))
      | else-not-index-2 w ↦ subst (λ (n : ℕ). Down (c.loop.counter + 1) n any) (sym w.node-is) (down_low _ _ any t c.loop.counter c.loop.node c.loop-test.true v.from v.to v.before (read ∙ w.if-not-index-2.false))
    ] in
    record { from = goes.from; to = goes.to; here = goes.here; before = goes.before }

pub returns : goal.returns
returns c =
    let t = c.self.invariant in
    let v = c.loop.invariant in
    let end : c.loop.counter ≡ c.self.inside.levels = omega arith in
    rw (← c.self.view_is) (first_flag _ _ _ t c.loop.node (rw end at v.from) (rw end at v.to) v.here (λ j low less. v.before j (rw (← end) at low) less))
