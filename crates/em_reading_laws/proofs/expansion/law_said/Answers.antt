use Rattle.em_reading_laws.proofs.Saying.{said_law, evals_law}
use Rattle.em_reading_laws.proofs.expansion.law_said.Goals as goal

pub returns : goal.returns
returns c = record { said = said_law; evals = evals_law }
