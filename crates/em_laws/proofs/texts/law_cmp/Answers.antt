use Rattle.em_laws.proofs.Lining.{cmp_differ, cmp_first, cmp_same, cmp_second}
use Rattle.em_laws.proofs.texts.law_cmp.Goals as goal

pub returns-clause-same : goal.returns-clause-same
returns-clause-same c = cmp_same

pub returns-clause-differ : goal.returns-clause-differ
returns-clause-differ c = cmp_differ

pub returns-clause-first : goal.returns-clause-first
returns-clause-first c = cmp_first

pub returns-clause-second : goal.returns-clause-second
returns-clause-second c = cmp_second
