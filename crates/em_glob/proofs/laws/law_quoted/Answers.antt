use Rattle.em_glob.proofs.Matching.{quoted_law}
use Rattle.em_glob.proofs.laws.law_quoted.Goals as goal

pub returns : goal.returns
returns c = quoted_law
