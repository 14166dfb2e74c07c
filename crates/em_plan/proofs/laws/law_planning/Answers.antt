use Rattle.em_implicit.specs.Seeking.{stands}
use Rattle.em_plan.specs.Makings.{making_of}
use Rattle.em_plan.specs.Walking.{asking}
use Rattle.em_plan.proofs.Telling.{told_visiting, told_plan}
use Rattle.em_plan.proofs.Sought.{asking_told}
use Rattle.em_plan.proofs.laws.law_planning.Goals as goal

pub returns-clause-walk : goal.returns-clause-walk
returns-clause-walk c = λ rules patterns tree cwd left stack w n.
    told_visiting (stands tree) (asking rules patterns cwd) (making_of rules patterns tree cwd) (asking_told rules patterns cwd tree) left stack w n

pub returns-clause-plan : goal.returns-clause-plan
returns-clause-plan c = told_plan
