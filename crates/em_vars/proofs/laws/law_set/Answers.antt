use Rattle.em_vars.proofs.Named.{set_own, set_other}
use Rattle.em_vars.proofs.laws.law_set.Goals as goal

pub returns : goal.returns
returns c = record { own = set_own; others = set_other }
