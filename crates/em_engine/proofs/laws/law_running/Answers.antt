use Rattle.em_engine.specs.declared.event.Event.TheVariants as event
use Rattle.em_engine.specs.Journal.{first}
use Rattle.std.proofs.Common.{◌∷◌, length}
use Rattle.em_engine.proofs.Lawful.{may_there}
use Rattle.em_engine.proofs.Events.{running}
use Rattle.em_engine.proofs.laws.law_running.Goals as goal

pub returns-clause-asks : goal.returns-clause-asks
returns-clause-asks c start waits before rest j e legal = running start waits j before (event.Ask j e ∷ rest) legal (may_there start waits (first (length waits)) before (event.Ask j e) rest legal).0

pub returns-clause-publishes : goal.returns-clause-publishes
returns-clause-publishes c start waits before rest j d o legal = running start waits j before (event.Publish j d o ∷ rest) legal (may_there start waits (first (length waits)) before (event.Publish j d o) rest legal)

pub returns-clause-gives_up : goal.returns-clause-gives_up
returns-clause-gives_up c start waits before rest j legal = running start waits j before (event.GiveUp j ∷ rest) legal (may_there start waits (first (length waits)) before (event.GiveUp j) rest legal)
