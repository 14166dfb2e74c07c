use Rattle.std.proofs.Common.{◌≡◌, take}
use Rattle.em_tree.specs.Usages.{flat}
use Rattle.em_tree.proofs.usage.Usage.entries.Given as goal

abbrev pub invariant-loop-look : goal.invariant-loop-look
invariant-loop-look l = l.entries.items ≡ flat (take l.look-index l.look-items)
