use Rattle.std.proofs.Common.{◌≡◌, ◌++◌}
use Rattle.em_lineutil.specs.Formats.{strange_times, repeats}
use Rattle.em_lineutil.proofs.format.faults.Given as goal

abbrev pub invariant-loop-times : goal.invariant-loop-times
invariant-loop-times l = l.all ++ strange_times l.times l.parts l.rest ≡ strange_times (repeats l.parts l.words) l.parts l.words

abbrev pub decreases-loop-times : goal.decreases-loop-times
decreases-loop-times l = l.times
