use Rattle.em_cmdline.proofs.Found.{goal_told}
use Rattle.em_cmdline.proofs.check.is_goal.Goals as goal

pub returns : goal.returns
returns c = goal_told c.args.word.now c.assignment.result c.is_none.result c.assignment.ensures c.is_none.ensures
