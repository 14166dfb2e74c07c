use Rattle.em_expand.proofs.Layering.{own_value, shared_value}
use Rattle.em_expand.proofs.laws.law_layers.Goals as goal

pub returns : goal.returns
returns c = record { own = own_value; shared = shared_value }
