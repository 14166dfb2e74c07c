use Rattle.em_program.proofs.Following.{finish}
use Rattle.em_program.proofs.ending.keep_known.Goals as goal

pub returns-in-None-clause-told : goal.returns-in-None-clause-told
returns-in-None-clause-told g c = rw c.in-None.is finish

pub returns-in_ok-text-in-Some-clause-told : goal.returns-in_ok-text-in-Some-clause-told
returns-in_ok-text-in-Some-clause-told g c = rw c.in-Some.is (rw (c.bytes.ensures, c.bytes-in-Some.ensures, c.in_ok-text-in-Some.ensures) at c.keep.ensures.told)
