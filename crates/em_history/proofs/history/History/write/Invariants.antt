use Rattle.std.proofs.Common.{◌≡◌, ◌++◌, codes, take}
use Rattle.std.specs.List.{flat_map}
use Rattle.em_history.specs.Histories.{line_of}
use Rattle.em_history.proofs.history.History.write.Given as goal

abbrev pub invariant-loop-pair : goal.invariant-loop-pair
invariant-loop-pair l = l.text ≡ codes "EMHIST 1\n" ++ flat_map line_of (take l.pair-index l.pair-items)
