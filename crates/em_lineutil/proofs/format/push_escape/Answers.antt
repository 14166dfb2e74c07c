use Rattle.std.proofs.Common.{refl}
use Rattle.em_lineutil.specs.Formats.{escaped}
use Rattle.em_lineutil.proofs.Parting.{begun_with}
use Rattle.em_lineutil.proofs.format.push_escape.Goals as goal

pub returns-clause-ok : goal.returns-clause-ok
returns-clause-ok c = begun_with _ _ (escaped c.in-Some.byte.now) _ _ c.in_ok-push_escaped.ensures (rw c.in-Some.ensures.cases.0 refl)
