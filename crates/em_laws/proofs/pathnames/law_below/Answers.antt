use Rattle.em_laws.proofs.Expanding.{below_other}
use Rattle.em_laws.proofs.pathnames.law_below.Goals as goal

pub returns-clause-other : goal.returns-clause-other
returns-clause-other c = below_other
