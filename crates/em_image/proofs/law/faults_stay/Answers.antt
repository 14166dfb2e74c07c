use Rattle.em_image.specs.Image.{limits}
use Rattle.em_image.proofs.Onward.{fault_stays, whole_and_more}
use Rattle.em_image.proofs.law.faults_stay.Goals as goal

pub returns-clause-fault : goal.returns-clause-fault
returns-clause-fault c = fault_stays limits

pub returns-clause-whole : goal.returns-clause-whole
returns-clause-whole c = whole_and_more limits
