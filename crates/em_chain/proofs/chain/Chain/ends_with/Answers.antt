use Rattle.std.proofs.Common.{◌∙◌, sym, ap, length, nat_eq}
use Rattle.em_chain.specs.Pairs.{Pairs}
use Rattle.em_chain.proofs.Pairs.{only_pair, no_pair, without_absent}
use Rattle.em_chain.proofs.chain.Chain.ends_with.Goals as goal

pub returns-in-Ok : goal.returns-in-Ok
returns-in-Ok c = only_pair c.args.job c.self.inside.held.items c.args.self.now c.in-Ok.field-0 c.len.result c.self.view_is c.self.invariant c.in-Ok.ensures.found (c.len.ensures ∙ c.self.inside.held.ok.0)

pub returns-in-Err : goal.returns-in-Err
returns-in-Err c =
    let n = c.args.self.now in
    let same = without_absent c.args.job n (no_pair c.args.job c.self.inside.held.items n c.self.view_is c.in-Err.field-0 c.self.invariant c.in-Err.ensures.gap) in
    c.is_empty.ensures ∙ ap (λ k. nat_eq k 0) (c.self.inside.held.ok.0 ∙ ap length c.self.view_is ∙ ap (λ (m : Pairs). length m) (sym same))
