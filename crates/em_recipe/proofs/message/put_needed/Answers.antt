use Rattle.std.proofs.Common.{append_assoc}
use Rattle.em_recipe.proofs.message.put_needed.Goals as goal

pub returns : goal.returns
returns c = rw c.in-Some.is (simp append_assoc at (rw (c.in_ok-add.ensures.ok, c.bytes.ensures) at c.put_quoted.ensures))
