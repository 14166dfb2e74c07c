use Rattle.std.proofs.Common.{drop}
use Rattle.em_view.specs.Ends.{is_want}
use Rattle.em_view.proofs.Doing.{Goes}
use Rattle.em_fileutil.specs.Utilities.{for_each}
use Rattle.em_fileutil.proofs.act.for_each.Given as goal

abbrev pub invariant-loop-operand : goal.invariant-loop-operand
invariant-loop-operand g l = Goes is_want g.V.View.tells l.initial.desk l.desk l.initial.done l.done (for_each l.utility l.what l.cwd l.operands) (for_each l.utility l.what l.cwd (drop l.operand-index l.operands))
