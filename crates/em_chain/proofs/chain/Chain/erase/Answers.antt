use Rattle.std.proofs.Common.{sym, ap, subst, length, ◌<◌, ◌∙◌, ℕ}
use Rattle.em_chain.proofs.Pairs.{erased, left_sorted, no_pair, without_absent, some_then}
use Rattle.em_chain.proofs.chain.Chain.erase.Goals as goal

pub invariant_of-self : goal.invariant_of-self
invariant_of-self c =
    let h = c.self.inside.held.items in
    let n = c.args.self.now in
    left_sorted c.args.job h n c.self.view_is c.remove.new.self.items c.self.invariant (erased c.args.job h n c.self.view_is c.in-Ok.i c.remove.new.self.items c.self.invariant c.in-Ok.ensures.found (some_then c.remove.result (c.remove.ensures.variant.1 (subst (λ (k : ℕ). c.in-Ok.i < k) (sym (c.self.inside.held.ok.0 ∙ ap length c.self.view_is)) c.in-Ok.ensures.found.1)) c.remove.ensures.items))

pub returns-in-Ok : goal.returns-in-Ok
returns-in-Ok c = erased c.args.job c.self.inside.held.items c.args.self.now c.self.view_is c.in-Ok.i c.remove.new.self.items c.self.invariant c.in-Ok.ensures.found (some_then c.remove.result (c.remove.ensures.variant.1 (subst (λ (k : ℕ). c.in-Ok.i < k) (sym (c.self.inside.held.ok.0 ∙ ap length c.self.view_is)) c.in-Ok.ensures.found.1)) c.remove.ensures.items)

pub returns-in_default : goal.returns-in_default
returns-in_default c =
    let n = c.args.self.now in
    sym (without_absent c.args.job n (no_pair c.args.job c.self.inside.held.items n c.self.view_is c.in_default.field-0 c.self.invariant c.in_default.ensures.gap))
