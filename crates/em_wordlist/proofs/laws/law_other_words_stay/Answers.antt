use Rattle.em_wordlist.proofs.Matching.{other_words_stay}
use Rattle.em_wordlist.proofs.laws.law_other_words_stay.Goals as goal

pub returns : goal.returns
returns c = other_words_stay
