use Rattle.std.proofs.Common.{◌≡◌, take, map}
use Rattle.em_reader.specs.Reading.{placed_line}
use Rattle.em_reader.proofs.files.placed_lines.Given as goal

abbrev pub invariant-loop-line : goal.invariant-loop-line
invariant-loop-line l = l.placed ≡ map (placed_line l.place) (take l.line-index l.lines)
