use Rattle.em_laws.proofs.Testing.{test_different, test_empty, test_filled, test_same}
use Rattle.em_laws.proofs.tested.law_texts.Goals as goal

pub returns-clause-empty : goal.returns-clause-empty
returns-clause-empty c = test_empty

pub returns-clause-filled : goal.returns-clause-filled
returns-clause-filled c = test_filled

pub returns-clause-same : goal.returns-clause-same
returns-clause-same c = test_same

pub returns-clause-different : goal.returns-clause-different
returns-clause-different c = test_different
