use Rattle.std.proofs.Common.{◌≡◌}
use Rattle.em_command.specs.Heres.{written}
use Rattle.em_command.specs.Delivering.{handed}
use Rattle.em_command.proofs.delivery.hand.Given as goal

abbrev pub invariant-loop-piece : goal.invariant-loop-piece
invariant-loop-piece l = l.here ≡ written (handed l.streams l.yielded) l.fn.here
