use Rattle.std.proofs.Common.{[]}
use Rattle.em_word.proofs.Meaning.{closed_first}
use Rattle.em_word.proofs.laws.law_in_order.Goals as goal

pub returns : goal.returns
returns c = λ front rest closed parts. closed_first front closed [] parts rest
