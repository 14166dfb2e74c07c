use Rattle.em_reading_laws.proofs.Including.{read_law, place_law}
use Rattle.em_reading_laws.proofs.reading.law_include.Goals as goal

pub returns : goal.returns
returns c = record { read = read_law c.law_plain.ensures; in_place = place_law c.law_plain.ensures }
