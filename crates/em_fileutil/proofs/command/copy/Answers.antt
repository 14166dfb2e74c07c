use Rattle.em_view.proofs.Doing.{owned_s}
use Rattle.em_utility.proofs.Trying.{caught_by}
use Rattle.em_fileutil.proofs.Commands.{copy_few, copy_enough}
use Rattle.em_fileutil.proofs.command.copy.Goals as goal

pub returns-then-operands-lt2 : goal.returns-then-operands-lt2
returns-then-operands-lt2 g c = copy_few c.args.utility.now c.args.manner c.args.cwd.now c.args.operands.now c.if-operands-lt2.true (owned_s _ c.missing.ensures)

pub returns : goal.returns
returns g c = copy_enough c.args.utility.now c.args.manner c.args.cwd.now c.args.operands.now c.if-operands-lt2.false (caught_by _ c.settle.ensures c.copy_all-given.ensures)
