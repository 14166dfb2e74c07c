use Rattle.em_program.proofs.Following.{finish}
use Rattle.em_program.proofs.ending.keep_history.Goals as goal

pub returns-in-Create-clause-told : goal.returns-in-Create-clause-told
returns-in-Create-clause-told g c = rw c.in-Create.is c.keep_known.ensures.told

pub returns-in-Merge-clause-told : goal.returns-in-Merge-clause-told
returns-in-Merge-clause-told g c = rw c.in-Merge.is c.keep_known-in-Merge.ensures.told

pub returns-in-Read-clause-told : goal.returns-in-Read-clause-told
returns-in-Read-clause-told g c = rw c.in-Read.is finish
