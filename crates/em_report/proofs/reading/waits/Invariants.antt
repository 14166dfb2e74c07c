use Rattle.std.proofs.Common.{◌≡◌, ◌-◌, length}
use Rattle.em_report.specs.Parts.{seen, waits_at}
use Rattle.em_report.proofs.Joins.{behind}
use Rattle.em_report.proofs.reading.waits.Given as goal

-- what was read and what is still read give the whole
abbrev pub invariant-loop : goal.invariant-loop
invariant-loop l = behind l.waits (waits_at (length l.cursor.rest.now - l.counter) (seen l.here)) ≡ waits_at (length l.cursor.rest.now) (seen l.cursor)
