use Rattle.std.proofs.Common.{sym}
use Rattle.em_remake.proofs.Choosing.{none_endless}
use Rattle.em_remake.proofs.goals.is_endless.Goals as goal

pub returns-then-not-is_double : goal.returns-then-not-is_double
returns-then-not-is_double c = sym (none_endless c.args.rules.now c.args.name.now (sym c.if-not-is_double.ensures))
