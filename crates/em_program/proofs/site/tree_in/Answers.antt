use Rattle.em_program.proofs.Following.{then, leave, finish}
use Rattle.em_program.proofs.site.tree_in.Goals as goal

pub returns-in_ok-project-in-Some-clause-told : goal.returns-in_ok-project-in-Some-clause-told
returns-in_ok-project-in-Some-clause-told g c = rw (c.in-Some.is, c.in_ok-project-in-Some.ensures.tree) finish

pub returns-in_err-bytes-in-Some-image-clause-told : goal.returns-in_err-bytes-in-Some-image-clause-told
returns-in_err-bytes-in-Some-image-clause-told g c = rw (c.in-None.is, c.in-Some-image.is) (leave _ c.from_residual-in_err-bytes-in-Some-image.ensures.1 (rw c.bytes.ensures at c.in_err-bytes-in-Some-image.ensures.told))

pub returns-in_ok-bytes-in-Some-image-clause-told : goal.returns-in_ok-bytes-in-Some-image-clause-told
returns-in_ok-bytes-in-Some-image-clause-told g c = rw (c.in-None.is, c.in-Some-image.is) (then _ (rw c.bytes.ensures at c.in_ok-bytes-in-Some-image.ensures.told) c.tree_of.ensures.told)
