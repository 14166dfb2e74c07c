use Rattle.em_view.proofs.Doing.{finish_s}
use Rattle.em_reader.proofs.hear.hear_condition.Goals as goal

pub returns-in-Malformed : goal.returns-in-Malformed
returns-in-Malformed g c = rw (c.in-Malformed.is, c.no_texts.ensures) finish_s
