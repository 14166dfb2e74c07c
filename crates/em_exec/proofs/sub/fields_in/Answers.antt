use Rattle.std.proofs.Common.{Ok, refl}
use Rattle.em_view.proofs.Doing.{then_s, owned_s}
use Rattle.em_exec.specs.Subs.{fields_in}
use Rattle.em_exec.proofs.sub.fields_in.Goals as goal

pub returns : goal.returns
unfolding fields_in
returns g c = then_s _ (owned_s {r = Ok tt} _ (λ n. refl)) (rw c.deref.ensures.value at c.fields_of.ensures)
