use Rattle.std.proofs.Common.{◌≡◌, map, take}
use Rattle.std.specs.List.{filter_map}
use Rattle.em_cmdline.specs.Words as spec
use Rattle.em_cmdline.proofs.read.assigned.Given as goal

abbrev pub invariant-loop-word : goal.invariant-loop-word
invariant-loop-word l = l.assigned ≡ filter_map spec.assignment (map (λ s. s.now) (take l.word-index l.words))
