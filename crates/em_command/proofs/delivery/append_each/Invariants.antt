use Rattle.std.proofs.Common.{drop}
use Rattle.em_view.proofs.Doing.{Goes}
use Rattle.em_command.specs.Jumps.{is_free}
use Rattle.em_command.specs.Delivering.{append_each}
use Rattle.em_command.proofs.delivery.append_each.Given as goal

abbrev pub invariant-loop-i : goal.invariant-loop-i
invariant-loop-i g l = Goes is_free g.V.View.tells l.initial.desk l.desk l.initial.here l.here (append_each l.files l.texts) (append_each (drop l.i l.files) (drop l.i l.texts))
