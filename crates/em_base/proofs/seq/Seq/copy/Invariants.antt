use Rattle.std.proofs.Common.{◌≡◌, take}
use Rattle.em_base.proofs.seq.Seq.copy.Given as goal

-- the copies of the first items
abbrev pub invariant-loop-item : goal.invariant-loop-item
invariant-loop-item g l = l.held.items ≡ take l.item-index l.item-items
