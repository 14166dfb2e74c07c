use Rattle.em_syntax.proofs.Counting.{closed_counts, counted_nests}
use Rattle.em_syntax.proofs.laws.law_closed.Goals as goal

pub returns : goal.returns
returns c = λ ps. (closed_counts ps, counted_nests ps)
