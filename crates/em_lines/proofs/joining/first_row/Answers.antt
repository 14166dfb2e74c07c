use Rattle.em_lines.proofs.Rows.{first_row_is}
use Rattle.em_lines.proofs.joining.first_row.Goals as goal

pub returns : goal.returns
returns c = first_row_is c.args.bytes.now c.before_newline-end.result c.get.result c.before_newline-end.ensures.within c.before_newline-end.ensures.first c.get.ensures.lookup.0
