use Rattle.em_program.proofs.Following.{finish}
use Rattle.em_program.proofs.Ends.{failed-so}
use Rattle.em_program.proofs.site.tree_of.Goals as goal

pub returns-in-Ok-clause-told : goal.returns-in-Ok-clause-told
returns-in-Ok-clause-told g c = rw c.in-Ok.ensures.exact finish

pub returns-in_ok-line-in_default-clause-told : goal.returns-in_ok-line-in_default-clause-told
returns-in_ok-line-in_default-clause-told g c =
    rw (failed-so c.in-Err.no _ c.in_default.not-NoMemory c.in-Err.ensures.exact) (rw (c.bytes.ensures, c.in_ok-line-in_default.ensures) at c.stop.ensures.told)
