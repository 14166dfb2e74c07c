use Rattle.std.proofs.Common.{refl}
use Rattle.em_view.proofs.Doing.{out_s}
use Rattle.em_fileutil.proofs.Commands.{list_here, list_those}
use Rattle.em_fileutil.proofs.command.list.Goals as goal

pub returns-in_err-here : goal.returns-in_err-here
returns-in_err-here g c = out_s _ refl c.from_residual.ensures.1

pub returns-then-is_empty : goal.returns-then-is_empty
returns-then-is_empty g c = list_here c.args.utility.now c.args.how c.args.cwd.now c.args.operands.now c.if-is_empty.ensures (rw (c.items.ensures, c.in_ok-here.ensures) at c.for_each.ensures)

pub returns : goal.returns
returns g c = list_those c.args.utility.now c.args.how c.args.cwd.now c.args.operands.now c.if-is_empty.ensures c.for_each-2.ensures
