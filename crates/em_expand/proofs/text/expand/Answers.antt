use Rattle.em_expand.specs.Expansion.{expansion}
use Rattle.em_expand.proofs.text.expand.Goals as goal

pub returns : goal.returns
unfolding expansion
returns g c = rw c.new-out.ensures at c.expand_text.ensures
