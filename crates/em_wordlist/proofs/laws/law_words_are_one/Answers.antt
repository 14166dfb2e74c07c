use Rattle.em_wordlist.proofs.Spelling.{words_are_one}
use Rattle.em_wordlist.proofs.laws.law_words_are_one.Goals as goal

pub returns : goal.returns
returns c = words_are_one
