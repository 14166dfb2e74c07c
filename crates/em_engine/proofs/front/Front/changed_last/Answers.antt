use Rattle.em_engine.proofs.Fronting.{few_deltas}
use Rattle.em_engine.proofs.front.Front.changed_last.Goals as goal

pub named_last-requires : goal.named_last-requires
named_last-requires g c = rw c.as_slice.ensures.value (few_deltas g.S.Spec.makes g.S.Spec.ends_after _ c.self.invariant.0)
