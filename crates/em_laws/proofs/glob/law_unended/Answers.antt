use Rattle.std.proofs.Common.{sym, subst}
use Rattle.em_glob.specs.Patterns.{Matches, pieces}
use Rattle.em_laws.proofs.Matching.{pieces_unended, itself_first, first_itself}
use Rattle.em_laws.proofs.glob.law_unended.Goals as goal

pub returns : goal.returns
returns c = λ gs name lacks. (
  λ m. itself_first 91 (pieces gs) name (subst (λ ps. Matches ps name) (pieces_unended gs lacks) m),
  λ h. subst (λ ps. Matches ps name) (sym (pieces_unended gs lacks)) (first_itself 91 (pieces gs) name h.0 h.1 h.2),
)
