use Rattle.std.proofs.Common.{◌≡◌, take}
use Rattle.em_insight.specs.Schedules.{span}
use Rattle.em_insight.proofs.listing.last_end.Given as goal

abbrev pub invariant-loop-slot : goal.invariant-loop-slot
invariant-loop-slot l = l.last ≡ span l.lines (take l.slot-index l.slots)
