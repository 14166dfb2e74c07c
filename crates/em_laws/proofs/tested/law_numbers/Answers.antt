use Rattle.em_laws.proofs.Testing.{numbers_above, numbers_below, numbers_same}
use Rattle.em_laws.proofs.tested.law_numbers.Goals as goal

pub returns-clause-below : goal.returns-clause-below
returns-clause-below c = numbers_below

pub returns-clause-same : goal.returns-clause-same
returns-clause-same c = numbers_same

pub returns-clause-above : goal.returns-clause-above
returns-clause-above c = numbers_above
