use Rattle.std.proofs.Common.{◌≢◌, ◌≡◌, sym, subst, refl, [], length, nat_eq, false}
use Rattle.em_chain.specs.declared.lines.PathChain.{PathChain}
use Rattle.em_chain.specs.Pairs.{Pairs}
use Rattle.em_chain.specs.Chains.{without}
use Rattle.em_chain.proofs.Lining.{through_lines, through_at, old_at, counted_full, not_there, no_chain}
use Rattle.em_chain.proofs.lines.PathChains.shrink.Goals as goal

pub unreachable-requires : goal.unreachable-requires
unreachable-requires c = no_chain c.args.job c.args.self.now c.args.p.now (not_there c.self.inside.held.entries c.args.p.now c.args.self.now c.self.view_is c.in-None.ensures.value) c.requires

pub invariant_of-self : goal.invariant_of-self
invariant_of-self c =
    let line : PathChain = record { above = c.in-Some.line.now.above; chain = c.erase.new.self } in
    through_lines c.self.inside.held (c.get_mut.follows.lender line) c.self.inside.children c.args.p.now c.in-Some.line.now line c.in-Some.ensures.value c.self.invariant (c.get_mut.follows.holds line) refl
    (subst (λ (x : Pairs). x ≢ []) (sym c.erase.ensures) (counted_full (without c.args.job c.in-Some.line.now.chain)
    (subst (λ (x : Pairs). nat_eq (length (without c.args.job x)) 0 ≡ false) (old_at c.self.inside.held (c.get_mut.follows.lender line) c.self.inside.children c.args.p.now c.in-Some.line.now line c.in-Some.ensures.value c.self.invariant (c.get_mut.follows.holds line) refl c.args.self.now c.self.view_is) c.requires)))

pub returns : goal.returns
returns c =
    let line : PathChain = record { above = c.in-Some.line.now.above; chain = c.erase.new.self } in
    through_at c.self.inside.held (c.get_mut.follows.lender line) c.self.inside.children c.args.p.now c.in-Some.line.now line c.in-Some.ensures.value c.self.invariant (c.get_mut.follows.holds line) refl c.args.self.now (without c.args.job) c.self.view_is c.erase.ensures
