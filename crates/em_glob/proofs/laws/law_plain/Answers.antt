use Rattle.em_glob.proofs.Matching.{plain_law}
use Rattle.em_glob.proofs.laws.law_plain.Goals as goal

pub returns : goal.returns
returns c = plain_law
