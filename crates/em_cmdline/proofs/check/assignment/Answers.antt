use Rattle.em_cmdline.proofs.Found.{split_at_equals}
use Rattle.em_cmdline.proofs.check.assignment.Goals as goal

pub returns : goal.returns
returns c = split_at_equals c.args.word.now c.split_once.result c.split_once.ensures.cases
