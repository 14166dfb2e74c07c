use Rattle.em_nesting_laws.proofs.Whole.{with_makes, without_makes}
use Rattle.em_nesting_laws.proofs.jobs.law_plain.Goals as goal

pub returns : goal.returns
returns c j s e n plain = (with_makes j s e n plain, without_makes j s e n plain)
