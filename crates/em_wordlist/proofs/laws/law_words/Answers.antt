use Rattle.em_wordlist.proofs.Spelling.{words_filled}
use Rattle.em_wordlist.proofs.laws.law_words.Goals as goal

pub returns : goal.returns
returns c = words_filled
