use Rattle.em_view.proofs.Primitives.{sound_changed}
use Rattle.em_view.proofs.desk.Desk.change.Goals.{in-None+in_ok-set-in-None, in-Some+in_ok-set_both-in-Some}
use Rattle.em_view.proofs.desk.Desk.change.Goals as goal

pub invariant_of-self-2 : goal.invariant_of-self-2
invariant_of-self-2 g c =
    let room = rw (← c.self.view_is) at c.requires.room in
    let fits = rw (← c.self.view_is) at c.requires.fits in
    let paths = rw (← c.self.view_is) at c.requires.paths in
    elim c.match-above.branch [
      | in-None+in_ok-set-in-None w ↦ rw w.self-inside-is (sound_changed _ _ _ _ _ _ _ c.self.invariant room (rw (w.in_ok-set-in-None.ensures.ok) (rw w.in-None.is at fits)) (rw (w.in_ok-set-in-None.ensures.ok) (rw w.in-None.is at paths)))
      | in-Some+in_ok-set_both-in-Some w ↦ rw w.self-inside-is (sound_changed _ _ _ _ _ _ _ c.self.invariant room (rw (w.in_ok-set_both-in-Some.ensures.ok, c.number-stamp.ensures, ← c.self.view_is) (rw w.in-Some.is at fits)) (rw (w.in_ok-set_both-in-Some.ensures.ok, c.number-stamp.ensures, ← c.self.view_is) (rw w.in-Some.is at paths)))
    ]
