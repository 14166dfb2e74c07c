use Rattle.std.proofs.Common.{◌∙◌, ◌++◌}
use Rattle.em_lineutil.proofs.Passing.{joined_all}
use Rattle.em_lineutil.proofs.search.prefixed.Goals as goal

pub returns : goal.returns
returns c = c.loop-line.invariant ∙ joined_all (λ l. c.args.front.now ++ l) c.args.lines.now c.loop-line.line-index c.loop-line-test.false
