use Rattle.std.proofs.Common.{append_assoc}
use Rattle.em_closing.proofs.lines.put_nothing_to_do.Goals as goal

pub returns : goal.returns
returns c = simp append_assoc (simp append_assoc at (rw (c.in_ok-add-2.ensures.ok, c.in_ok-add.ensures.ok) at c.add-3.ensures.ok))
