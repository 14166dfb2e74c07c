use Rattle.em_view.proofs.Doing.{owned_s}
use Rattle.em_command.proofs.Settling.{said_s}
use Rattle.em_command.proofs.builtin.asked_of.Goals as goal

pub returns-in-Cd : goal.returns-in-Cd
returns-in-Cd g c = rw c.in-Cd.is c.cd.ensures

pub returns-in-Pwd : goal.returns-in-Pwd
returns-in-Pwd g c = rw c.in-Pwd.is (said_s _ c.pwd.ensures)

pub returns-in-Exit : goal.returns-in-Exit
returns-in-Exit g c = rw c.in-Exit.is (said_s _ c.exit.ensures)

pub returns-in-Export : goal.returns-in-Export
returns-in-Export g c = rw c.in-Export.is (owned_s _ c.export.ensures)

pub returns-in-Unset : goal.returns-in-Unset
returns-in-Unset g c = rw c.in-Unset.is (owned_s _ c.unset.ensures)

pub returns-in-Break : goal.returns-in-Break
returns-in-Break g c = rw c.in-Break.is (said_s _ c.leave.ensures)

pub returns-in-Continue : goal.returns-in-Continue
returns-in-Continue g c = rw c.in-Continue.is (said_s _ c.leave-in-Continue.ensures)
