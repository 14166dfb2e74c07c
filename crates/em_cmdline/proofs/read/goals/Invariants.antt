use Rattle.std.proofs.Common.{◌≡◌, filter, map, take}
use Rattle.em_cmdline.specs.Words as spec
use Rattle.em_cmdline.proofs.read.goals.Given as goal

abbrev pub invariant-loop-word : goal.invariant-loop-word
invariant-loop-word l = l.goals ≡ filter spec.is_goal (map (λ s. s.now) (take l.word-index l.words))
