use Rattle.std.proofs.Common.{◌≡◌}
use Rattle.std.specs.List.{filter}
use Rattle.em_plan.specs.Makings.{joins}
use Rattle.em_plan.specs.Resuming.{known_in}
use Rattle.em_plan.proofs.members.Choice.group.Given as goal

abbrev pub invariant-loop-member : goal.invariant-loop-member
invariant-loop-member l = l.names ≡ filter (joins (known_in l.self.marks.now) l.self.name.now) l.yielded
