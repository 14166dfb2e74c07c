use Rattle.std.proofs.Common.{◌≡◌, ◌++◌, drop}
use Rattle.std.specs.List.{flat_map}
use Rattle.em_refs.specs.Parts.{parted}
use Rattle.em_lines.specs.Folding.{folded_part}
use Rattle.em_lines.proofs.fold.folded_references.Given as goal

-- the parts so far, and those that are left behind them
abbrev pub invariant-loop-part : goal.invariant-loop-part
invariant-loop-part l = flat_map (folded_part l.line) (parted l.line).parts ≡ l.text ++ flat_map (folded_part l.line) (drop l.part-index l.part-items)
