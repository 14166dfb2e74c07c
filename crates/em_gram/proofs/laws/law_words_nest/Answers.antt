use Rattle.em_gram.proofs.Closed.{words_nest}
use Rattle.em_gram.proofs.laws.law_words_nest.Goals as goal

pub returns : goal.returns
returns c = words_nest
