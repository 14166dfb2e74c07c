use Rattle.em_nesting.specs.Nested.{MakesAll}
use Rattle.em_program.specs.Serial.{ends}
use Rattle.em_program.proofs.Fronts.{front_of}
use Rattle.em_program.proofs.top.law_one_build.Goals as goal

pub returns-clause-front : goal.returns-clause-front
returns-clause-front c = front_of MakesAll ends c.law_one_effect.ensures
