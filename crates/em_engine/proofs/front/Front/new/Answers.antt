use Rattle.em_engine.proofs.Fronting.{starts_front}
use Rattle.em_engine.proofs.front.Front.new.Goals as goal

pub invariant_of-result : goal.invariant_of-result
invariant_of-result g c =
    rw (c.in_ok-state.ensures, c.new.ensures.items, c.new-2.ensures.items)
    (starts_front g.S.Spec.makes g.S.Spec.ends_after c.args.start c.args.specs c.requires.bare c.requires.small, c.requires.numbered)
