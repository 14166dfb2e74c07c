use Rattle.std.proofs.Common.{◌∙◌, ◌++◌, ap, sym}
use Rattle.std.proofs.lemmas.Map.Iter.{rest_more}
use Rattle.std.specs.Map.Iter.{deref_pair}
use Rattle.em_vars.proofs.Named.{seen, set_next}
use Rattle.em_vars.proofs.vars.Vars.copy.Goals as goal

pub loop-name-preserved : goal.loop-name-preserved
loop-name-preserved c =
    let more = rest_more deref_pair c.loop-name.name-iterator c.next.new.self c.next.result (c.in-Some.name, c.in-Some.v) c.in-Some.is c.next.ensures.steps in
    set_next c.args.self.now c.loop-name.copied (seen (λ k. k.items) c.next.new.self) c.set.new.self (c.in-Some.name.now.items, c.in-Some.v.now)
    c.in_ok-from_slice.field-0 c.in_ok-copy.field-0 c.in_ok-set.field-0
    c.iter-name-items.ensures.names
    (sym (ap (λ l. c.loop-name.copied ++ seen (λ k. k.items) l) more) ∙ c.loop-name.invariant)
    (c.in_ok-from_slice.ensures ∙ c.as_slice.ensures.value) c.in_ok-copy.ensures c.in_ok-set.ensures.answer c.in_ok-set.ensures.set
