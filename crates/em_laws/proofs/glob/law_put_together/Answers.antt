use Rattle.std.proofs.Common.{sym, subst}
use Rattle.em_glob.specs.Patterns.{Matches, pieces}
use Rattle.em_laws.proofs.Matching.{of_closed, matches_both, both_match}
use Rattle.em_laws.proofs.glob.law_put_together.Goals as goal

pub returns : goal.returns
returns c = λ xs ys name closed. (
  λ m. matches_both (pieces xs) (pieces ys) name (subst (λ ps. Matches ps name) (of_closed xs ys closed) m),
  λ h. subst (λ ps. Matches ps name) (sym (of_closed xs ys closed)) (both_match (pieces xs) (pieces ys) name h.0 h.1 h.2 h.3 h.4),
)
