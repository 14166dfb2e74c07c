use Rattle.std.proofs.Common.{◌≡◌}
use Rattle.em_command.specs.Heres.{written}
use Rattle.em_command.proofs.here.Here.add.Given as goal

abbrev pub invariant-loop-piece : goal.invariant-loop-piece
invariant-loop-piece l = l.self ≡ written l.yielded l.fn.self
