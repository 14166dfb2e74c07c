use Rattle.std.proofs.Common.{◌≡◌, ◌++◌}
use Rattle.em_lineutil.specs.Formats.{shown_times, repeats}
use Rattle.em_lineutil.proofs.format.printed.Given as goal

abbrev pub invariant-loop-times : goal.invariant-loop-times
invariant-loop-times l = l.out ++ shown_times l.times l.parts l.rest ≡ shown_times (repeats l.parts l.words) l.parts l.words

abbrev pub decreases-loop-times : goal.decreases-loop-times
decreases-loop-times l = l.times
