use Rattle.std.proofs.Common.{◌≡◌, length}
use Rattle.em_lineutil.specs.Formats.{before, format_of}
use Rattle.em_lineutil.proofs.format.format_of.Given as goal

abbrev pub invariant-loop-byte : goal.invariant-loop-byte
invariant-loop-byte l = before l.parts.items (format_of l.rest) ≡ format_of l.fn.text

abbrev pub decreases-loop-byte : goal.decreases-loop-byte
decreases-loop-byte l = length l.rest
