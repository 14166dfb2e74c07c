use Rattle.em_view.proofs.OwnNames.{component_of, named_insert, named_remove}
use Rattle.em_view.proofs.names.amend.Goals as goal

pub returns-in_ok-insert-in-Some-clause-named : goal.returns-in_ok-insert-in-Some-clause-named
returns-in_ok-insert-in-Some-clause-named c =
    let name = component_of c.args.path.now c.in-Some-Some.name.now c.text-text.ensures.path c.in-Some-Some.ensures in
    named_insert c.args.set.now.keys c.in_ok-name.name c.insert.new.self.keys c.in_ok-insert-in-Some.ensures.keys c.in_ok-insert-in-Some.ensures.ordered c.requires.named (rw c.in_ok-name.ensures name)

pub returns-in-None-clause-named : goal.returns-in-None-clause-named
returns-in-None-clause-named c = named_remove c.args.set.now.keys _ c.remove.new.self.keys c.remove.ensures.keys c.remove.ensures.ordered c.requires.named
