use Rattle.em_wordlist.proofs.Spelling.{joined_and_cut}
use Rattle.em_wordlist.proofs.laws.law_joined_and_cut.Goals as goal

pub returns : goal.returns
returns c = joined_and_cut
