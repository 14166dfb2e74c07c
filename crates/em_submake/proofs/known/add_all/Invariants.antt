use Rattle.std.proofs.Common.{◌≡◌, ◌++◌, take}
use Rattle.em_submake.specs.Submakes.{known_in}
use Rattle.em_submake.proofs.known.add_all.Given as goal

abbrev pub invariant-loop-pre : goal.invariant-loop-pre
invariant-loop-pre l = l.known.items ≡ l.initial.known.items ++ known_in l.ended (take l.pre-index l.pres)
