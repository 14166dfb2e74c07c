use Rattle.em_path.proofs.Testing.{component_test, path_test}
use Rattle.em_path.proofs.laws.law_tests.Goals as goal

pub returns : goal.returns
returns c = record { component = component_test; path = path_test }
