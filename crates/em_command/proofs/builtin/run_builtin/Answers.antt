use Rattle.em_command.proofs.Settling.{settled_by}
use Rattle.em_command.proofs.builtin.run_builtin.Goals as goal

pub returns : goal.returns
returns g c = settled_by _ (λ h. rw c.name_of.ensures at (c.settled.ensures h c.asked-given.new.shell)) c.asked-given.ensures
