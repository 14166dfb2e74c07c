use Rattle.std.proofs.Common.{◌≡◌, ◌++◌, drop}
use Rattle.em_command.specs.Delivering.{texts_from}
use Rattle.em_command.proofs.delivery.texts_for.Given as goal

abbrev pub invariant-loop-i : goal.invariant-loop-i
invariant-loop-i l = l.texts ++ texts_from l.streams l.pieces l.i (drop l.i l.streams.files) ≡ texts_from l.streams l.pieces 0 l.streams.files
