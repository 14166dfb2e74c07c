use Rattle.std.proofs.Common.{◌≡◌, ◌++◌, drop}
use Rattle.em_refs.specs.Parts.{parted, left}
use Rattle.em_lines.specs.Comments.{bare_parts}
use Rattle.em_lines.proofs.comment.bare.Given as goal

-- the parts so far, and those that are left behind them
abbrev pub invariant-loop-part : goal.invariant-loop-part
invariant-loop-part l = bare_parts l.bytes (parted l.bytes).parts (left l.bytes (parted l.bytes).unclosed) ≡ l.text ++ bare_parts l.bytes (drop l.part-index l.part-items) (left l.bytes l.unclosed)
