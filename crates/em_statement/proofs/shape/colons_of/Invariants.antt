use Rattle.std.proofs.Common.{◌≡◌, ◌++◌, drop}
use Rattle.em_statement.specs.Shapes.{colons_of}
use Rattle.em_statement.proofs.shape.colons_of.Given as goal

abbrev pub invariant-loop-byte : goal.invariant-loop-byte
invariant-loop-byte l = colons_of l.text ≡ l.colons ++ colons_of (drop l.byte-index l.text)
