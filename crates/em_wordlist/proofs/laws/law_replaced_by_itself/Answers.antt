use Rattle.em_wordlist.proofs.Matching.{replaced_by_itself}
use Rattle.em_wordlist.proofs.laws.law_replaced_by_itself.Goals as goal

pub returns : goal.returns
returns c = replaced_by_itself
