use Rattle.em_program_laws.proofs.Replacing.{read_stays}
use Rattle.em_program_laws.proofs.laws.law_history_read.Goals as goal

pub returns : goal.returns
returns c = read_stays
