use Rattle.std.proofs.Common.{◌≡◌}
use Rattle.em_remake.specs.Remaking.{goals_among}
use Rattle.em_remake.proofs.goals.goals_among.Given as goal

abbrev pub invariant-loop-name : goal.invariant-loop-name
invariant-loop-name l = l.goals ≡ goals_among l.makefile.book.now l.makefile.tree.now l.makefile.cwd.now l.yielded
