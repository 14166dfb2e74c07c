use Rattle.em_view.proofs.Asking.{asks_performs, sound_grown}
use Rattle.em_view.proofs.desk.Desk.ask.Goals as goal

pub invariant_of-self : goal.invariant_of-self
invariant_of-self g c = sound_grown _ _ _ _ _ _ _ _ c.ask_view.ensures.grew c.self.invariant

pub returns-clause-performs : goal.returns-clause-performs
returns-clause-performs g c = rw (← c.self.view_is) (asks_performs _ _ _ _ _ _ _ _ _ _ _ _ c.ask_view.ensures)
