use Rattle.em_wordlist.proofs.Matching.{stem_is_put_back}
use Rattle.em_wordlist.proofs.laws.law_stem_is_put_back.Goals as goal

pub returns : goal.returns
returns c = stem_is_put_back
