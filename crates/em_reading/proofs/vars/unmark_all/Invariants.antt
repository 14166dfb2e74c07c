use Rattle.std.proofs.Common.{◌≡◌, take, map}
use Rattle.em_reading.specs.Variables.{all_unmarked}
use Rattle.em_reading.proofs.vars.unmark_all.Given as goal

abbrev pub invariant-loop-name : goal.invariant-loop-name
invariant-loop-name l = l.vars ≡ all_unmarked l.initial.vars (map (λ n. n.now) (take l.name-index l.names))
