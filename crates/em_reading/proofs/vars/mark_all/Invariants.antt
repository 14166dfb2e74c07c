use Rattle.std.proofs.Common.{◌≡◌, take, map}
use Rattle.em_reading.specs.Variables.{all_marked}
use Rattle.em_reading.proofs.vars.mark_all.Given as goal

abbrev pub invariant-loop-name : goal.invariant-loop-name
invariant-loop-name l = l.vars ≡ all_marked l.initial.vars (map (λ n. n.now) (take l.name-index l.names))
