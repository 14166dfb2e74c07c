use Rattle.std.proofs.Common.{◌≡◌, take}
use Rattle.std.specs.List.{filter_map}
use Rattle.em_learning.specs.Learnt.{pair_of}
use Rattle.em_learning.proofs.pairs.learnt.Given as goal

abbrev pub invariant-loop-note : goal.invariant-loop-note
invariant-loop-note l = l.pairs.items ≡ filter_map (pair_of l.jobs) (take l.note-index l.notes)
