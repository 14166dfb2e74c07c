use Rattle.em_program.proofs.Following.{finish}
use Rattle.em_program.proofs.words.read.Goals as goal

pub returns-in_ok-aimed-in-Ok-clause-told : goal.returns-in_ok-aimed-in-Ok-clause-told
returns-in_ok-aimed-in-Ok-clause-told g c = rw (c.in-Ok.ensures.ok.0, c.in_ok-aimed-in-Ok.ensures.aimed, c.in-Ok.ensures.ok.1) finish
