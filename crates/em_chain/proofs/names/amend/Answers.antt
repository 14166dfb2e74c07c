use Rattle.em_chain.proofs.Naming.{component_of, named_insert, named_remove, listing_put, listing_gone}
use Rattle.em_chain.proofs.names.amend.Goals as goal

pub returns-in_ok-insert-in-Some-node-clause-named : goal.returns-in_ok-insert-in-Some-node-clause-named
returns-in_ok-insert-in-Some-node-clause-named c =
    let name = component_of c.args.path.now c.in-Some.name.now c.text-text.ensures.path c.in-Some.ensures in
    named_insert c.args.set.now.keys c.in_ok-name.name c.insert.new.self.keys c.in_ok-insert-in-Some-node.ensures.keys c.in_ok-insert-in-Some-node.ensures.ordered c.requires.named (rw c.in_ok-name.ensures name)

pub returns-in_ok-insert-in-Some-node-clause-listing : goal.returns-in_ok-insert-in-Some-node-clause-listing
returns-in_ok-insert-in-Some-node-clause-listing c = λ p t up h.
    let name = component_of c.args.path.now c.in-Some.name.now c.text-text.ensures.path c.in-Some.ensures in
    let named = named_insert c.args.set.now.keys c.in_ok-name.name c.insert.new.self.keys c.in_ok-insert-in-Some-node.ensures.keys c.in_ok-insert-in-Some-node.ensures.ordered c.requires.named (rw c.in_ok-name.ensures name) in
    rw (c.in-Some-becomes.is, c.in-Some-node.is) (listing_put p c.args.path.now c.in_ok-name.name t c.args.set.now.keys c.insert.new.self.keys c.text-text.ensures.path up (rw c.in_ok-name.ensures c.in-Some.ensures) named h c.in-Some-node.field-0 c.in_ok-insert-in-Some-node.ensures.keys)

pub returns-in-None-clause-named : goal.returns-in-None-clause-named
returns-in-None-clause-named c = named_remove c.args.set.now.keys _ c.remove.new.self.keys c.remove.ensures.keys c.remove.ensures.ordered c.requires.named

pub returns-in-None-clause-listing : goal.returns-in-None-clause-listing
returns-in-None-clause-listing c = λ p t up h.
    let named = named_remove c.args.set.now.keys _ c.remove.new.self.keys c.remove.ensures.keys c.remove.ensures.ordered c.requires.named in
    rw (c.in-Some-becomes.is, c.in-None.is) (listing_gone p c.args.path.now c.in_ok-name.name t c.args.set.now.keys c.remove.new.self.keys c.text-text.ensures.path up (rw c.in_ok-name.ensures c.in-Some.ensures) named h c.remove.ensures.keys)
