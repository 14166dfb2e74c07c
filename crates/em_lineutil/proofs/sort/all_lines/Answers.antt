use Rattle.std.proofs.Common.{◌∙◌}
use Rattle.em_lineutil.specs.Sorting.{bare_lines}
use Rattle.em_lineutil.proofs.Passing.{gathered_all}
use Rattle.em_lineutil.proofs.sort.all_lines.Goals as goal

pub returns : goal.returns
returns c = c.loop-text.invariant ∙ gathered_all bare_lines c.args.texts.now c.loop-text.text-index c.loop-text-test.false
