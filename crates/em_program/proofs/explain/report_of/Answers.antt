use Rattle.em_program.proofs.Following.{finish}
use Rattle.em_program.proofs.explain.report_of.Goals as goal

pub returns-in-Ok-clause-told : goal.returns-in-Ok-clause-told
returns-in-Ok-clause-told g c = rw c.in-Ok.ensures.reading finish
