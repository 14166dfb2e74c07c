use Rattle.em_view.proofs.Performing.{finish}
use Rattle.em_textutil.proofs.expression.says_unary.Goals as goal

pub returns-in-Filled : goal.returns-in-Filled
returns-in-Filled g c = rw (c.in-Filled.is, c.is_filled.ensures) finish

pub returns-in-Empty : goal.returns-in-Empty
returns-in-Empty g c = rw (c.in-Empty.is, c.is_filled-in-Empty.ensures) finish
