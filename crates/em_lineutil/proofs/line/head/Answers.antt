use Rattle.em_lineutil.specs.Lines.{head}
use Rattle.em_lineutil.proofs.Passing.{front_is, text_parted}
use Rattle.em_lineutil.proofs.line.head.Goals as goal

pub returns : goal.returns
unfolding head
returns c = rw c.length_behind.ensures.count (front_is _ _ _ (text_parted c.args.n c.args.text.now))
