use Rattle.em_reading_laws.proofs.Telling.{text_said, reading_said}
use Rattle.em_reading_laws.proofs.reading.law_said.Goals as goal

pub returns : goal.returns
returns c = record { text = text_said; whole = reading_said }
