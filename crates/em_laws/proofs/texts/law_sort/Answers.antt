use Rattle.em_laws.proofs.Lining.{once_law, sorted_last, sorted_law}
use Rattle.em_laws.proofs.texts.law_sort.Goals as goal

pub returns-clause-sorted : goal.returns-clause-sorted
returns-clause-sorted c = sorted_law c.law_sorted.ensures.rises c.law_sorted.ensures.same

pub returns-clause-once : goal.returns-clause-once
returns-clause-once c = once_law c.law_sorted.ensures.rises c.law_sorted.ensures.same

pub returns-clause-last : goal.returns-clause-last
returns-clause-last c = sorted_last
