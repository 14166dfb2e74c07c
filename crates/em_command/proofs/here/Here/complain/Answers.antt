use Rattle.std.proofs.Common.{Result, Ok, Err, refl, ap}
use Rattle.em_command.specs.declared.jump.Jump.{Jump}
use Rattle.em_command.specs.declared.here.Here.{Here}
use Rattle.em_command.specs.Heres.{with_status}
use Rattle.em_command.proofs.here.Here.complain.Goals as goal

abbrev failing : Result (Unit {0} × Here) (Jump × Here) → Result (Unit {0} × Here) (Jump × Here)
failing (Ok p) = Ok (p.0, with_status 1 p.1)
failing (Err p) = Err p

pub returns : goal.returns
returns c = λ h. ap failing (rw (c.in_ok-error_line.ensures, c.text.ensures) at (c.in_ok-write.ensures refl))
