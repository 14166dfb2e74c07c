use Rattle.em_expand.proofs.Sparing.{all_expansion}
use Rattle.em_expand.proofs.laws.law_spares.Goals as goal

pub returns : goal.returns
returns c = λ vars cwd place text s o w. ((all_expansion vars cwd place text).at s).by o w
