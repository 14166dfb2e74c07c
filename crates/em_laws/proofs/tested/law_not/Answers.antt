use Rattle.em_laws.proofs.Testing.{test_not}
use Rattle.em_laws.proofs.tested.law_not.Goals as goal

pub returns : goal.returns
returns c = test_not
