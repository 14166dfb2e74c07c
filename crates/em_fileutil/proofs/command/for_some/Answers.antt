use Rattle.em_view.proofs.Doing.{owned_s}
use Rattle.em_fileutil.proofs.Commands.{some_none, some_filled}
use Rattle.em_fileutil.proofs.command.for_some.Goals as goal

pub returns-then-is_empty : goal.returns-then-is_empty
returns-then-is_empty g c = some_none c.args.utility.now c.args.operands.now _ c.if-is_empty.ensures (owned_s _ c.missing.ensures)

pub returns : goal.returns
returns g c = some_filled c.args.utility.now c.args.operands.now _ c.if-is_empty.ensures c.for_each.ensures
