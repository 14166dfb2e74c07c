use Rattle.std.proofs.Common.{◌≡◌, drop}
use Rattle.em_report.specs.Parts.{seen, text_at}
use Rattle.em_report.proofs.parts.text.Given as goal

-- what is left of the text, from here, gives what the whole gives
abbrev pub invariant-loop-byte : goal.invariant-loop-byte
invariant-loop-byte l = text_at (drop l.byte-index l.bytes) (seen l.after) ≡ text_at l.fn.bytes (seen l.fn.cursor)
