use Rattle.em_wordlist.proofs.Matching.{filled_matches, match_is_filled}
use Rattle.em_wordlist.proofs.laws.law_filled_matches.Goals as goal

pub returns-clause-matches : goal.returns-clause-matches
returns-clause-matches c = filled_matches

pub returns-clause-only : goal.returns-clause-only
returns-clause-only c = match_is_filled
