use Rattle.std.proofs.Common.{◌≡◌, ◌++◌, drop}
use Rattle.em_lineutil.specs.Formats.{strange, left}
use Rattle.em_lineutil.proofs.format.push_all_strange.Given as goal

abbrev pub invariant-loop-part : goal.invariant-loop-part
invariant-loop-part l =
    (l.all ++ strange (drop l.part-index l.parts) l.rest ≡ l.fn.all ++ strange l.parts l.words)
    × (left (drop l.part-index l.parts) l.rest ≡ left l.parts l.words)
