use Rattle.em_laws.proofs.Expanding.{components_one, components_parted}
use Rattle.em_laws.proofs.pathnames.law_components.Goals as goal

pub returns-clause-parted : goal.returns-clause-parted
returns-clause-parted c = components_parted

pub returns-clause-one : goal.returns-clause-one
returns-clause-one c = components_one
