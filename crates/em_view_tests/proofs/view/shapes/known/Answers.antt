use Rattle.std.proofs.Common.{refl}
use Rattle.em_view.specs.Examples.{known, of_desk, known_by}
use Rattle.em_view.proofs.Performing.{then, exit, finish, refused, lifted, lifted_exit}
use Rattle.em_view_tests.proofs.view.shapes.known.Goals as goal

pub returns-in-Err : goal.returns-in-Err
unfolding known
returns-in-Err g c = exit _ (lifted_exit of_desk (λ x. refl) c.in-Err.ensures.performs)

pub returns-in-Absent : goal.returns-in-Absent
unfolding known
returns-in-Absent g c = then known_by (lifted of_desk c.in-Ok.ensures.performs) (rw c.in-Absent.is refused)

pub returns-in-File : goal.returns-in-File
unfolding known
returns-in-File g c = then known_by (lifted of_desk c.in-Ok.ensures.performs) (rw c.in-File.is finish)

pub returns-in-Dir : goal.returns-in-Dir
unfolding known
returns-in-Dir g c = then known_by (lifted of_desk c.in-Ok.ensures.performs) (rw c.in-Dir.is finish)

pub returns-in-Link : goal.returns-in-Link
unfolding known
returns-in-Link g c = then known_by (lifted of_desk c.in-Ok.ensures.performs) (rw c.in-Link.is finish)
