use Rattle.em_fields.proofs.Parting.{quoted_law}
use Rattle.em_fields.proofs.laws.law_quoted.Goals as goal

pub returns : goal.returns
returns c = quoted_law
