use Rattle.std.proofs.Common.{refl}
use Rattle.em_command.specs.Streams.{redirected, shown}
use Rattle.em_command.proofs.Settling.{looked_by}
use Rattle.em_command.proofs.streams.redirect.Goals as goal

pub returns : goal.returns
unfolding redirected
returns g c = looked_by _ shown (λ h e. refl) _ _ c.shown.ensures c.connect-given.ensures
