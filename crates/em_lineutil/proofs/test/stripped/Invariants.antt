use Rattle.std.proofs.Common.{◌≡◌, length}
use Rattle.em_lineutil.specs.Tests.{stripped}
use Rattle.em_lineutil.proofs.test.stripped.Given as goal

-- what is left comes to the same
abbrev pub invariant-loop-negated : goal.invariant-loop-negated
invariant-loop-negated l = stripped l.negated l.rest ≡ stripped l.initial.negated l.initial.rest

abbrev pub decreases-loop-negated : goal.decreases-loop-negated
decreases-loop-negated l = length l.rest
