use Rattle.std.proofs.Common.{◌≡◌, [], take}
use Rattle.std.specs.Prelude.{fold}
use Rattle.em_reading.specs.Start.{given_one}
use Rattle.em_reading.proofs.begin.given.Given as goal

abbrev pub invariant-loop-i : goal.invariant-loop-i
invariant-loop-i l = l.vars ≡ fold given_one [] (take l.i l.defaults)
