use Rattle.std.proofs.Common.{◌∙◌, ◌∷◌, [], sym}
use Rattle.em_lineutil.proofs.Parting.{begun_with, directed_by}
use Rattle.em_lineutil.proofs.format.push_directive.Goals as goal

pub returns-clause-ok : goal.returns-clause-ok
returns-clause-ok c =
    begun_with _ _ (c.in-Some-directive.part ∷ []) _ _ c.in_ok-push.ensures
    (rw c.in-Some.ensures.cases.0 (directed_by c.in-Some.byte.now c.in-Some-directive.part c.in-Some.rest.now (sym c.directive.ensures ∙ c.in-Some-directive.is)))
