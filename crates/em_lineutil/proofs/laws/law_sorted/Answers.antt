use Rattle.em_lineutil.proofs.Places.{permutation-sorted, sorted-rises}
use Rattle.em_lineutil.proofs.laws.law_sorted.Goals as goal

pub returns-clause-rises : goal.returns-clause-rises
returns-clause-rises c = sorted-rises

pub returns-clause-same : goal.returns-clause-same
returns-clause-same c = permutation-sorted
