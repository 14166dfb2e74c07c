use Rattle.std.proofs.Common.{append_assoc}
use Rattle.em_recipe.proofs.message.put_no_rule.Goals as goal

pub returns : goal.returns
returns c = simp append_assoc (simp append_assoc at (rw (c.in_ok-put_needed.ensures, c.in_ok-put_quoted.ensures, c.in_ok-add.ensures.ok, c.stop_text.ensures) at c.add-2.ensures.ok))
