use Rattle.std.proofs.Common.{refl}
use Rattle.std.proofs.lemmas.Bool.{lt-ltb, le-ltb}
use Rattle.em_utility.proofs.Trying.{gave_none}
use Rattle.em_command.proofs.streams.at_path.Goals as goal

pub returns-then-fd-gt2 : goal.returns-then-fd-gt2
returns-then-fd-gt2 g c = rw (lt-ltb 2 c.args.fd c.if-fd-gt2.true) (gave_none (λ h. refl))

pub returns : goal.returns
returns g c = rw (le-ltb 2 c.args.fd c.if-fd-gt2.false) c.open_for.ensures
