use Rattle.em_reading_laws.proofs.Rounds.{read_law, round_law, fault_law, first_law}
use Rattle.em_reading_laws.proofs.reading.law_round.Goals as goal

pub returns : goal.returns
returns c = record { read = read_law; round = round_law; fault = fault_law; first = first_law }
