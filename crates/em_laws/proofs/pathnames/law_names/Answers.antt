use Rattle.em_laws.proofs.Expanding.{names_given, names_rise}
use Rattle.em_laws.proofs.pathnames.law_names.Goals as goal

pub returns-clause-order : goal.returns-clause-order
returns-clause-order c = names_rise

pub returns-clause-given : goal.returns-clause-given
returns-clause-given c = names_given c.law_fits.ensures
