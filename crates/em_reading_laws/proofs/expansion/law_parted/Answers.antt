use Rattle.em_reading_laws.proofs.Parting.{parted_law}
use Rattle.em_reading_laws.proofs.expansion.law_parted.Goals as goal

pub returns : goal.returns
returns c = parted_law
