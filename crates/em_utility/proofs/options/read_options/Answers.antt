use Rattle.std.proofs.Common.{refl}
use Rattle.em_utility.specs.Options.{read_options}
use Rattle.em_utility.proofs.options.read_options.Goals as goal

pub returns-in_ok-letter-in-Some : goal.returns-in_ok-letter-in-Some
unfolding read_options
returns-in_ok-letter-in-Some c = λ h. rw (← c.in_ok-options.ensures, ← c.bytes.ensures, ← c.in-Some.ensures, c.in_ok-letter-in-Some.ensures) refl

pub returns-in-None : goal.returns-in-None
unfolding read_options
returns-in-None c = λ h. rw (← c.in_ok-options.ensures, ← c.bytes.ensures, ← c.in-None.ensures) refl
