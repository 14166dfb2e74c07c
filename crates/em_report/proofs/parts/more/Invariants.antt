use Rattle.std.proofs.Common.{◌≡◌, ◌≤◌, drop}
use Rattle.em_report.specs.Parts.{seen, more_at}
use Rattle.em_report.proofs.parts.more.Given as goal

-- behind the number so far stands what is left, and gives what the whole gives
abbrev pub invariant-loop-byte : goal.invariant-loop-byte
invariant-loop-byte l = record {
  small : l.number ≤ l.limit;
  rest : l.here.rest.now ≡ drop l.byte-index l.cursor.rest.now;
  gives : more_at l.limit l.number (seen l.here) ≡ more_at l.limit l.fn.number (seen l.fn.cursor);
}
