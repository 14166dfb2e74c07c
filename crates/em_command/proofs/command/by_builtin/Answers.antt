use Rattle.em_command.proofs.Words.{by_some, by_none}
use Rattle.em_command.proofs.command.by_builtin.Goals as goal

pub returns-in-Some : goal.returns-in-Some
returns-in-Some g c = by_some _ _ _ _ c.in-Some.ensures (rw c.behind.ensures at c.run_builtin.ensures)

pub returns-in-None : goal.returns-in-None
returns-in-None g c = by_none _ _ _ _ c.in-None.ensures c.utility.ensures
