use Rattle.std.proofs.Common.{◌∙◌, None}
use Rattle.em_chain.proofs.Pairs.{placed, no_pair, put_sorted, roomed_new, roomed_here, find_here}
use Rattle.em_chain.proofs.chain.Chain.make_place.Goals as goal

pub invariant_of-self : goal.invariant_of-self
invariant_of-self c =
    let h = c.self.inside.held.items in
    let n = c.args.self.now in
    put_sorted c.args.job h n c.self.view_is None c.insert.new.self.items c.self.invariant (placed c.args.job h n c.self.view_is c.in-Err.i c.insert.new.self.items c.self.invariant c.in-Err.ensures.gap c.in_ok-insert.ensures.items)

pub returns-in_ok-insert-clause-ok : goal.returns-in_ok-insert-clause-ok
returns-in_ok-insert-clause-ok c =
    let h = c.self.inside.held.items in
    let n = c.args.self.now in
    placed c.args.job h n c.self.view_is c.in-Err.i c.insert.new.self.items c.self.invariant c.in-Err.ensures.gap c.in_ok-insert.ensures.items
    ∙ roomed_new c.args.job n (no_pair c.args.job h n c.self.view_is c.in-Err.i c.self.invariant c.in-Err.ensures.gap)

pub returns-in_default-clause-ok : goal.returns-in_default-clause-ok
returns-in_default-clause-ok c =
    let n = c.args.self.now in
    let o = c.in_default.ensures.found in
    roomed_here c.args.job n (find_here c.args.job n c.in_default.field-0 o.1 o.2)
