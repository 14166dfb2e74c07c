use Rattle.em_view.proofs.Doing.{refused_s}
use Rattle.em_command.proofs.Words.{cd_none, cd_one, cd_more}
use Rattle.em_command.proofs.builtin.cd.Goals as goal

pub returns-in-empty : goal.returns-in-empty
returns-in-empty g c = cd_none c.args.operands.now c.in-empty.len_below (refused_s _ (λ h. c.wrong.ensures))

pub returns-in-len1 : goal.returns-in-len1
returns-in-len1 g c = cd_one c.args.operands.now c.name-item.result c.in-len1.len_at_least c.in-len1.len_below c.name-item.is (rw c.bytes.ensures at c.change_directory.ensures)

pub returns-in_default : goal.returns-in_default
returns-in_default g c = cd_more c.args.operands.now c.in_default.len_at_least (refused_s _ (λ h. c.wrong-in_default.ensures))
