use Rattle.em_vars.proofs.Named.{undefined_own, undefined_other}
use Rattle.em_vars.proofs.laws.law_undefine.Goals as goal

pub returns : goal.returns
returns c = record { own = undefined_own; others = undefined_other }
