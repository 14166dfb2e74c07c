use Rattle.std.proofs.Common.{◌≡◌, ◌∙◌, ap, sym, subst, refl, arith, drop, ℕ}
use Rattle.std.specs.Prelude.{T}
use Rattle.std.specs.Ordering.{nat_cmp}
use Rattle.std.specs.FinMap.{is_sorted}
use Rattle.em_chain.specs.Pairs.{Pairs}
use Rattle.em_chain.proofs.Pairs.{cut_here, from_sorted, still_sorted, drop_more}
use Rattle.em_chain.proofs.chain.Chain.cut.Goals as goal

pub loop-init : goal.loop-init
loop-init c = record { left = refl; within = omega arith }

pub invariant_of-self : goal.invariant_of-self
invariant_of-self c =
    let h = c.self.inside.held.items in
    let n = c.args.self.now in
    let all : c.loop.counter ≡ c.count_below-below.result = omega (arith, c.loop.invariant.within, c.loop-test.false) in
    subst (λ (m : Pairs). T (is_sorted nat_cmp m))
    (sym (cut_here c.args.job h n c.count_below-below.result c.loop.self-inside.held.items c.self.view_is c.count_below-below.ensures (c.loop.invariant.left ∙ ap (λ (k : ℕ). drop k h) all)))
    (from_sorted c.args.job n (still_sorted c.args.job h n c.self.view_is c.self.invariant))

pub loop-preserved : goal.loop-preserved
loop-preserved c = record {
  left = c.pop_front.ensures.rest ∙ ap (drop 1) c.loop.invariant.left ∙ drop_more c.loop.counter c.self.inside.held.items;
  within = omega (arith, c.loop-test.true);
}

pub returns : goal.returns
returns c =
    let h = c.self.inside.held.items in
    let all : c.loop.counter ≡ c.count_below-below.result = omega (arith, c.loop.invariant.within, c.loop-test.false) in
    cut_here c.args.job h c.args.self.now c.count_below-below.result c.loop.self-inside.held.items c.self.view_is c.count_below-below.ensures (c.loop.invariant.left ∙ ap (λ (k : ℕ). drop k h) all)
