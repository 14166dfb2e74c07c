use Rattle.std.proofs.Common.{◌≡◌, ◌++◌, take}
use Rattle.em_learning.specs.Links.{lower}
use Rattle.em_learning.proofs.waits.add_lower.Given as goal

abbrev pub invariant-loop-number : goal.invariant-loop-number
invariant-loop-number l = l.waits ≡ l.fn.waits ++ lower l.made (take l.number-index l.needed)
