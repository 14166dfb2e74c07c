use Rattle.std.proofs.Common.{◌≡◌, length}
use Rattle.std.specs.Prelude.{None}
use Rattle.em_lexeme.specs.Frames.{outermost}
use Rattle.em_lexeme.proofs.frame.outermost_of.Given as goal

abbrev pub invariant-loop-frame : goal.invariant-loop-frame
invariant-loop-frame l = outermost l.initial.frames None ≡ outermost l.frames l.found

abbrev pub decreases-loop-frame : goal.decreases-loop-frame
decreases-loop-frame l = length l.frames
