use Rattle.std.proofs.Common.{◌≤◌, ◌-◌, ◌+◌, arith, ◌*◌, ◌^◌, ◌<◌, ◌∙◌, ap, sym, subst, length}
use Rattle.std.specs.FinMap.{from_entries}
use Rattle.em_chain.specs.Posts.{Floored}
use Rattle.em_chain.specs.Pairs.{Pairs}
use Rattle.em_chain.specs.Chains.{last_below}
use Rattle.em_chain.specs.Floors.{chain_over}
use Rattle.em_chain.proofs.Posting.{held_chain}
use Rattle.em_chain.proofs.versions.Versions.found.Goals as goal

pub returns-in-Some-clause-found : goal.returns-in-Some-clause-found
returns-in-Some-clause-found c =
    c.last.ensures.last ∙ ap (last_below c.args.job)
    (c.in-Some.ensures ∙ held_chain c.self.inside.start c.self.inside.floor c.self.inside.lines (from_entries c.self.inside.posts.entries) c.self.invariant.1 c.args.p.now ∙ ap (λ (v : Floored). chain_over v c.args.p.now) c.self.view_is)

pub returns-in-Some-clause-few : goal.returns-in-Some-clause-few
returns-in-Some-clause-few c =
    let e = c.in-Some.ensures ∙ held_chain c.self.inside.start c.self.inside.floor c.self.inside.lines (from_entries c.self.inside.posts.entries) c.self.invariant.1 c.args.p.now ∙ ap (λ (v : Floored). chain_over v c.args.p.now) c.self.view_is in
    subst (λ (d : Pairs). 2 ^ (c.last.new.steps - c.args.steps.now) ≤ 2 * length d + 1) e c.last.ensures.few

pub returns-in-Some-clause-some : goal.returns-in-Some-clause-some
returns-in-Some-clause-some c some =
    let e = c.in-Some.ensures ∙ held_chain c.self.inside.start c.self.inside.floor c.self.inside.lines (from_entries c.self.inside.posts.entries) c.self.invariant.1 c.args.p.now ∙ ap (λ (v : Floored). chain_over v c.args.p.now) c.self.view_is in
    c.last.ensures.some (subst (λ (d : Pairs). 0 < length d) (sym e) some)

pub returns-in-None-clause-some : goal.returns-in-None-clause-some
returns-in-None-clause-some c some =
    let e = c.in-None.ensures ∙ held_chain c.self.inside.start c.self.inside.floor c.self.inside.lines (from_entries c.self.inside.posts.entries) c.self.invariant.1 c.args.p.now ∙ ap (λ (v : Floored). chain_over v c.args.p.now) c.self.view_is in
    let none : 0 < 0 = subst (λ (d : Pairs). 0 < length d) (sym e) some in
    omega (arith, none)

pub returns-in-None-clause-found : goal.returns-in-None-clause-found
returns-in-None-clause-found c =
    ap (last_below c.args.job) (c.in-None.ensures ∙ held_chain c.self.inside.start c.self.inside.floor c.self.inside.lines (from_entries c.self.inside.posts.entries) c.self.invariant.1 c.args.p.now ∙ ap (λ (v : Floored). chain_over v c.args.p.now) c.self.view_is)
