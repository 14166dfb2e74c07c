use Rattle.std.proofs.Common.{◌≡◌, take}
use Rattle.std.specs.Prelude.{fold}
use Rattle.em_reading.specs.Start.{with_assigned}
use Rattle.em_reading.proofs.begin.set_all_assigned.Given as goal

abbrev pub invariant-loop-one : goal.invariant-loop-one
invariant-loop-one l = l.vars ≡ fold with_assigned l.initial.vars (take l.one-index l.assigned)
