use Rattle.em_image.specs.Image.{limits}
use Rattle.em_image.proofs.Forward.{fault_place, fault_long}
use Rattle.em_image.proofs.law.faults_have_places.Goals as goal

pub returns-clause-within : goal.returns-clause-within
returns-clause-within c = fault_place limits

pub returns-clause-long : goal.returns-clause-long
returns-clause-long c = fault_long limits
