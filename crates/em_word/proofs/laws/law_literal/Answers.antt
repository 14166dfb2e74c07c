use Rattle.em_word.proofs.Literals.{literal_comes}
use Rattle.em_word.proofs.laws.law_literal.Goals as goal

pub returns : goal.returns
returns c = literal_comes
