use Rattle.em_laws.proofs.Numbering.{later, one_change, rises, room}
use Rattle.em_laws.proofs.desk.law_numbers.Goals as goal

pub returns-clause-rises : goal.returns-clause-rises
returns-clause-rises c = rises

pub returns-clause-later : goal.returns-clause-later
returns-clause-later c = later

pub returns-clause-one : goal.returns-clause-one
returns-clause-one c = one_change

pub returns-clause-room : goal.returns-clause-room
returns-clause-room c = room
