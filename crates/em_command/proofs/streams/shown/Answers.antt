use Rattle.std.proofs.Common.{Option, None, Result, Ok, Err, refl, ap}
use Rattle.em_command.specs.declared.jump.Jump.{Jump}
use Rattle.em_command.specs.declared.here.Here.{Here}
use Rattle.em_command.specs.declared.streams.Streams.{Streams}
use Rattle.em_command.proofs.streams.shown.Goals as goal

abbrev without : Result (Unit {0} × Here) (Jump × Here) → Result (Option Streams × Here) (Jump × Here)
without (Ok p) = Ok (None, p.1)
without (Err p) = Err p

pub returns-in_ok-complain-in-Err-Fault : goal.returns-in_ok-complain-in-Err-Fault
returns-in_ok-complain-in-Err-Fault c = λ h. rw (c.in-Err-Fault.is, c.in-Err-Fault.field-0-is) (ap without (rw c.bytes.ensures at (c.in_ok-complain-in-Err-Fault.ensures refl)))
