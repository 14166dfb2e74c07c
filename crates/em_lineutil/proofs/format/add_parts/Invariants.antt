use Rattle.std.proofs.Common.{◌≡◌, ◌++◌, drop}
use Rattle.em_lineutil.specs.Formats.{shown, left}
use Rattle.em_lineutil.proofs.format.add_parts.Given as goal

abbrev pub invariant-loop-part : goal.invariant-loop-part
invariant-loop-part l =
    (l.out ++ shown (drop l.part-index l.parts) l.rest ≡ l.fn.out ++ shown l.parts l.words)
    × (left (drop l.part-index l.parts) l.rest ≡ left l.parts l.words)
