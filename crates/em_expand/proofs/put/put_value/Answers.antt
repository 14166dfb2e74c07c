use Rattle.em_expand.specs.Table.{row_of}
use Rattle.em_expand.proofs.Making.{few_s, enough_s}
use Rattle.em_expand.proofs.put.put_value.Goals as goal

pub returns-then-args-row : goal.returns-then-args-row
returns-then-args-row g c = few_s (row_of c.args.row.now) c.args.args.now _ c.if-args-row.true c.bad_argument.ensures

pub returns : goal.returns
returns g c = enough_s (row_of c.args.row.now) c.args.args.now c.if-args-row.false c.put_plain.ensures
