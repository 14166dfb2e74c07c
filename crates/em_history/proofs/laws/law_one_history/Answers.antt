use Rattle.em_history.proofs.Placing.{alike}
use Rattle.em_history.proofs.laws.law_one_history.Goals as goal

pub returns : goal.returns
returns c = λ ps qs g h e. alike ps qs g.rising h.rising e
