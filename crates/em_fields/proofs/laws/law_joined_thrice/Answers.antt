use Rattle.em_fields.proofs.Joining.{joined_assoc}
use Rattle.em_fields.proofs.laws.law_joined_thrice.Goals as goal

pub returns : goal.returns
returns c = joined_assoc
