use Rattle.std.proofs.Common.{◌≡◌, take}
use Rattle.std.specs.List.{flat_map}
use Rattle.em_rules.specs.Static.{made, stem_in}
use Rattle.em_rules.proofs.made.in_row.Given as goal

abbrev pub invariant-loop-target : goal.invariant-loop-target
invariant-loop-target l = l.row ≡ flat_map (λ t. made (stem_in l.rule t) l.patterns) (take l.target-index l.target-items)
