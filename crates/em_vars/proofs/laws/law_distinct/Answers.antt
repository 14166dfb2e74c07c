use Rattle.em_vars.proofs.Named.{set_distinct, undefined_distinct}
use Rattle.em_vars.proofs.laws.law_distinct.Goals as goal

pub returns : goal.returns
returns c = record { set = set_distinct; undefined = undefined_distinct }
