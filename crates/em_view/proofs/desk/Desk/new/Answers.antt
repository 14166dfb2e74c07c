use Rattle.std.proofs.Common.{arith}
use Rattle.em_view.proofs.Asking.{fits_none, paths_none}
use Rattle.em_view.proofs.desk.Desk.new.Goals as goal

pub invariant_of-result : goal.invariant_of-result
invariant_of-result g c = rw (c.new-2.ensures, c.new.ensures.items) (record { base = c.requires.base; small = rw c.left.ensures c.requires.fuel; room = rw c.left.ensures (omega arith); fits = fits_none; paths = paths_none })
