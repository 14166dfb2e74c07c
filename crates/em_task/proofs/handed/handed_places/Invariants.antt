use Rattle.std.proofs.Common.{◌≡◌, ◌++◌, drop}
use Rattle.em_task.specs.Handed.{handed_places}
use Rattle.em_task.proofs.Places.{places_from}
use Rattle.em_task.proofs.handed.handed_places.Given as goal

abbrev pub invariant-loop-i : goal.invariant-loop-i
invariant-loop-i l = l.places.items ++ places_from l.i (drop l.i l.vars) ≡ handed_places l.vars
