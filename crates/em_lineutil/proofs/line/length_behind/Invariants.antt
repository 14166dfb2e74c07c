use Rattle.std.proofs.Common.{◌≡◌, drop}
use Rattle.bstr.specs.Text.{lines_of}
use Rattle.em_lineutil.proofs.line.length_behind.Given as goal

-- behind the lines that are still to be passed over stand those that are wanted
abbrev pub invariant-loop-left : goal.invariant-loop-left
invariant-loop-left l = drop l.left l.lines ≡ drop l.n (lines_of l.fn.text)

abbrev pub decreases-loop-left : goal.decreases-loop-left
decreases-loop-left l = l.left
