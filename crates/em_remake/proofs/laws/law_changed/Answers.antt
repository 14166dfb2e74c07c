use Rattle.em_remake.proofs.Choosing.{all_same, none_changed}
use Rattle.em_remake.proofs.laws.law_changed.Goals as goal

pub returns : goal.returns
returns c = λ before after names cwd. (all_same before after cwd names, none_changed before after cwd names)
