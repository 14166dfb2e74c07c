use Rattle.em_wordlist.proofs.Spelling.{texts_are}
use Rattle.em_wordlist.proofs.laws.law_texts.Goals as goal

pub returns : goal.returns
returns c = texts_are
