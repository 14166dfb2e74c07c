use Rattle.std.proofs.Common.{◌≡◌, ◌-◌, length}
use Rattle.em_report.specs.Parts.{seen}
use Rattle.em_report.specs.Reading.{lines_at}
use Rattle.em_report.proofs.Joins.{behind}
use Rattle.em_report.proofs.reading.lines.Given as goal

-- what was read and what is still read give the whole
abbrev pub invariant-loop : goal.invariant-loop
invariant-loop l = behind l.lines (lines_at (length l.cursor.rest.now - l.counter) (seen l.here)) ≡ lines_at (length l.cursor.rest.now) (seen l.cursor)
