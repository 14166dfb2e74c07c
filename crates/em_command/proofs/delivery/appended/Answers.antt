use Rattle.std.proofs.Common.{refl}
use Rattle.em_command.specs.Delivering.{appended, told}
use Rattle.em_command.proofs.Settling.{looked_by}
use Rattle.em_command.proofs.delivery.appended.Goals as goal

pub returns : goal.returns
unfolding appended
returns g c = looked_by _ told (λ h e. refl) _ _ c.told.ensures c.append-given.ensures
