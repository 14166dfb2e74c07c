use Rattle.em_vars.proofs.Named.{names_present, names_absent}
use Rattle.em_vars.proofs.laws.law_order.Goals as goal

pub returns : goal.returns
returns c = record { present = names_present; absent = names_absent }
