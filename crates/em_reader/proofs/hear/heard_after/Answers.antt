use Rattle.em_view.proofs.Doing.{finish_s}
use Rattle.em_reader.proofs.hear.heard_after.Goals as goal

pub returns-in-Some : goal.returns-in-Some
returns-in-Some g c = rw (c.in-Some.is, c.nothing.ensures) finish_s
