use Rattle.em_reader.proofs.Passed.{no_lines}
use Rattle.em_reader.proofs.laws.law_empty_text.Goals as goal

pub returns : goal.returns
returns c = no_lines
