use Rattle.em_fields.proofs.Parting.{joined_law}
use Rattle.em_fields.proofs.laws.law_joined.Goals as goal

pub returns : goal.returns
returns c = joined_law
