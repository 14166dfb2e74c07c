use Rattle.em_glob.proofs.Matching.{fits_matches, matches_fits}
use Rattle.em_glob.proofs.laws.law_fits.Goals as goal

pub returns : goal.returns
returns c = λ ps name. (fits_matches ps name, matches_fits ps name)
