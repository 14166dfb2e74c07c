use Rattle.em_reading_laws.proofs.Turning.{parted, text_law, open_law, refused_law}
use Rattle.em_reading_laws.proofs.reading.law_lines.Goals as goal

pub returns : goal.returns
returns c = record { parted = parted; text = text_law; unended = open_law; refused = refused_law }
