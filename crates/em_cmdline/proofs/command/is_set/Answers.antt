use Rattle.std.proofs.Common.{◌∙◌, refl}
use Rattle.em_cmdline.proofs.Found.{reads_true}
use Rattle.em_cmdline.proofs.command.is_set.Goals as goal

pub returns : goal.returns
returns c = c.eq.ensures ∙ reads_true c.value.result c.value.ensures _ refl
