use Rattle.std.proofs.Common.{◌≡◌, take}
use Rattle.std.specs.List.{flat_map}
use Rattle.em_statement.specs.Shapes.{part_shape}
use Rattle.em_statement.proofs.shape.shape.Given as goal

abbrev pub invariant-loop-part : goal.invariant-loop-part
invariant-loop-part l = l.shape ≡ flat_map (part_shape l.text) (take l.part-index l.part-items)
