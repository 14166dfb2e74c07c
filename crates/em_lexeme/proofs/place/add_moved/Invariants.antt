use Rattle.std.proofs.Common.{◌≡◌, ◌++◌, map}
use Rattle.em_lexeme.specs.Places.{moved}
use Rattle.em_lexeme.proofs.place.add_moved.Given as goal

abbrev pub invariant-loop-lexeme : goal.invariant-loop-lexeme
invariant-loop-lexeme l = l.items ≡ l.initial.items ++ map (moved l.places l.close) l.yielded
