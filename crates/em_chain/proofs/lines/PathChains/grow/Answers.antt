use Rattle.std.proofs.Common.{◌≢◌, sym, subst, refl, []}
use Rattle.em_tree.proofs.Maps.{at_err}
use Rattle.em_chain.specs.declared.lines.PathChain.{PathChain}
use Rattle.em_chain.specs.Pairs.{Pairs}
use Rattle.em_chain.specs.Chains.{roomed}
use Rattle.em_chain.proofs.Lining.{through_lines, through_at, through_same, old_filled, roomed_full, not_there}
use Rattle.em_chain.proofs.Pairs.{none_some}
use Rattle.em_chain.proofs.lines.PathChains.grow.Goals as goal

pub invariant_of-self : goal.invariant_of-self
invariant_of-self c =
    let line : PathChain = record { above = c.in-Some.line.now.above; chain = c.make_place.new.self } in
    through_lines c.self.inside.held (c.get_mut.follows.lender line) c.self.inside.children c.args.p.now c.in-Some.line.now line c.in-Some.ensures.value c.self.invariant (c.get_mut.follows.holds line) refl
    (subst (λ (x : Pairs). x ≢ []) (sym c.in_err-make_place-in-Some.ensures.err) (old_filled c.self.inside.held (c.get_mut.follows.lender line) c.self.inside.children c.args.p.now c.in-Some.line.now line c.in-Some.ensures.value c.self.invariant (c.get_mut.follows.holds line) refl))

pub returns-in_err-make_place-in-Some-clause-err : goal.returns-in_err-make_place-in-Some-clause-err
returns-in_err-make_place-in-Some-clause-err c =
    let line : PathChain = record { above = c.in-Some.line.now.above; chain = c.make_place.new.self } in
    at_err _ (through_same c.self.inside.held (c.get_mut.follows.lender line) c.self.inside.children c.args.p.now c.in-Some.line.now line c.in-Some.ensures.value c.self.invariant (c.get_mut.follows.holds line) refl c.args.self.now c.self.view_is c.in_err-make_place-in-Some.ensures.err)

pub unreachable-requires : goal.unreachable-requires
unreachable-requires c = none_some _ (not_there c.self.inside.held.entries c.args.p.now c.args.self.now c.self.view_is c.in-None.ensures.value) c.requires

pub invariant_of-self-2 : goal.invariant_of-self-2
invariant_of-self-2 c =
    let line : PathChain = record { above = c.in-Some.line.now.above; chain = c.make_place.new.self } in
    through_lines c.self.inside.held (c.get_mut.follows.lender line) c.self.inside.children c.args.p.now c.in-Some.line.now line c.in-Some.ensures.value c.self.invariant (c.get_mut.follows.holds line) refl
    (subst (λ (x : Pairs). x ≢ []) (sym c.in_ok-make_place-in-Some.ensures.ok) (roomed_full c.args.job c.in-Some.line.now.chain (old_filled c.self.inside.held (c.get_mut.follows.lender line) c.self.inside.children c.args.p.now c.in-Some.line.now line c.in-Some.ensures.value c.self.invariant (c.get_mut.follows.holds line) refl)))

pub returns-clause-ok : goal.returns-clause-ok
returns-clause-ok c =
    let line : PathChain = record { above = c.in-Some.line.now.above; chain = c.make_place.new.self } in
    through_at c.self.inside.held (c.get_mut.follows.lender line) c.self.inside.children c.args.p.now c.in-Some.line.now line c.in-Some.ensures.value c.self.invariant (c.get_mut.follows.holds line) refl c.args.self.now (roomed c.args.job) c.self.view_is c.in_ok-make_place-in-Some.ensures.ok
